-- Whole lines of which none has a match.
use Rattle.std.specs.Prelude.{◌≡◌, ◌⊎◌, ℕ, Bool, true, false, ◌&&◌, ◌||◌, List, [], ◌∷◌, ◌++◌, All, if◌then◌else◌}
use Rattle.grep_core.specs.declared.progress.Progress.{Progress}
use Rattle.grep_core.specs.declared.progress.Task.{Task}
use Rattle.grep_core.specs.declared.context_printer.ContextPrinter.{ContextPrinter}
use Rattle.grep_core.specs.declared.output_options.OutputOptions.{OutputOptions}
use Rattle.grep_core.specs.Blocks.{reported_bytes, counts_lines}
use Rattle.line_search.specs.Lines.{SplitLine, split_lines}
use Rattle.line_search.specs.LineMatchers.{LineMatcher}
use Rattle.grep_core.specs.Report.{as_it_is, before_of}
use Rattle.grep_core.specs.Reporting.{prints_lines}

-- Bytes that are whole lines: they are empty or end with a line feed.
abbrev pub AreWhole : List ℕ → Type 0
AreWhole text = (text ≡ []) ⊎ ((first : List ℕ) × (text ≡ first ++ 10 ∷ []))

-- A line has no match, and no span. No template changes it.
pub record HasNoMatch (f : LineMatcher) (line : SplitLine) : Type 0 where
  pub no_match : f.has_match line ≡ false
  pub no_text : f.spans line ≡ []
  pub no_change : (template : List ℕ) → f.replaced template line ≡ as_it_is line []

-- At this point, a line without a match is neither selected nor owed as context to a selected one.
pub record MaySkip (w : OutputOptions) (c : ContextPrinter) : Type 0 where
  pub kept : w.invert ≡ false
  pub none_owed : prints_lines w.print ≡ true → c.left ≡ 0

-- How many lines before a selected one are printed with it.
abbrev pub held_of : OutputOptions → ℕ
held_of w = if prints_lines w.print then before_of w.context else 0

-- Whether the output depends on the numbers of lines or on their offsets.
abbrev pub shows_numbers : OutputOptions → Bool
shows_numbers w = prints_lines w.print && (w.numbers || w.offsets)

-- The lines were processed up to `rest`. If none of them has a match, then none in `rest` has one. The output so far, followed by what is
-- still to be printed, is unchanged, whatever follows these lines. So is the number of selected lines.
pub record PassesLinesTo (t : Task) (f : LineMatcher) (old new : Progress) (lines rest out now : List ℕ) : Type 0 where
  pub lack : All (HasNoMatch f) (split_lines lines) → All (HasNoMatch f) (split_lines rest)
  pub printed : All (HasNoMatch f) (split_lines lines) → (more : List ℕ) →
      out ++ reported_bytes t f old (split_lines (lines ++ more)) ≡ now ++ reported_bytes t f new (split_lines (rest ++ more))
  pub counted : All (HasNoMatch f) (split_lines lines) → (more : List ℕ) →
      counts_lines t f new (split_lines (rest ++ more)) ≡ counts_lines t f old (split_lines (lines ++ more))
