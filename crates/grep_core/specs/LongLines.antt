-- What is found in a line from an offset on, and what is written of a line while its matches are searched for.
use Rattle.std.specs.Prelude.{◌≡◌, ◌⊎◌, ℕ, true, false, List, [], ◌∷◌, ◌++◌, Option, None, Result, ⊤, OnOk, IfErr, take}
use Rattle.std.specs.Io.KnownBytes.{Appends}
use Rattle.grep_core.specs.Blocks.{SearchesBy, finds_by, reported_bytes, counts_lines}
use Rattle.grep_core.specs.ContextPrinting.{Waits}
use Rattle.line_search.specs.Lines.{SplitLine, TextLine}
use Rattle.line_search.specs.LineMatchers.{LineMatcher}
use Rattle.grep_core.specs.Printing.{printed_for, printed_match}
use Rattle.grep_core.specs.Reporting.{may_select}
use Rattle.line_search.specs.Searchers.{Sought}
use Rattle.line_search.specs.declared.fault.Fault.{Fault}
use Rattle.grep_core.specs.declared.output_options.OutputOptions.{OutputOptions}
use Rattle.grep_core.specs.declared.output_options.Print.{Print}
use Rattle.grep_core.specs.declared.output_options.Print.TheVariants.{Lines, Matches}
use Rattle.grep_core.specs.declared.progress.Progress.{Progress}
use Rattle.grep_core.specs.declared.progress.Task.{Task}
use Rattle.grep_core.specs.declared.role.Role.TheVariants.{Selected}

-- Selected lines are printed once for each of their matches, however long they are. So what is printed for a match depends on no other.
pub record PrintsEach (w : OutputOptions) : Type 0 where
  pub lines : w.print ≡ Lines
  pub each : w.each_match ≡ true
  pub unlimited : w.most_bytes ≡ None

-- What is printed for a match depends on no other match: the match alone is printed, or the line for it.
abbrev pub PrintsByMatch : OutputOptions → Type 0
PrintsByMatch w = (w.print ≡ Matches) ⊎ PrintsEach w

-- What is printed for a match of a selected line then.
abbrev pub printed_one_as : Print → OutputOptions → Option (List ℕ) → TextLine → ℕ × ℕ → List ℕ
printed_one_as Matches w name line s = printed_match w name Selected line s
printed_one_as _ w name line s = printed_for w name Selected line [] s

abbrev pub printed_one : OutputOptions → Option (List ℕ) → TextLine → ℕ × ℕ → List ℕ
printed_one w name line s = printed_one_as w.print w name line s

-- Lines with a match are selected, and matches are printed as they are.
pub record PrintsPlain (w : OutputOptions) : Type 0 where
  pub plain : w.invert ≡ false
  pub unreplaced : w.replacement ≡ None

-- The matches of a line that has one can be printed one after the other, if n lines were selected before it: it is selected, and its
-- matches are printed one by one and as they are.
pub record MayWriteMatches (s : Sought) (w : OutputOptions) (n : ℕ) : Type 0 where
  pub spans : s.spans ≡ true
  pub by_match : PrintsByMatch w
  pub plain : PrintsPlain w
  pub may : may_select w.most n ≡ true

-- A beginning of some bytes was written, and the rest of them is still to be written.
pub record Sends (empty full : Option (List ℕ)) (all rest : List ℕ) : Type 0 where
  pub sent : List ℕ
  pub written : Appends empty full sent
  pub is : all ≡ sent ++ rest

-- The output for some lines was written, and the lines `after` are left.
pub record WritesLines (t : Task) (f : LineMatcher) (old new : Progress) (before after : List SplitLine)
    (empty full : Option (List ℕ)) : Type 0 where
  pub sends : Sends empty full (reported_bytes t f old before) (reported_bytes t f new after)
  pub counted : counts_lines t f new after ≡ counts_lines t f old before

-- What a call that writes the output for a line promises. The finder still searches for `s`. On success, that output was written, whatever
-- lines follow, and the buffered lines are as they may be. On an error, a prefix of the output was written.
pub record WritesLine (t : Task) (s now : Sought) (old new : Progress) (line : SplitLine) (empty full : Option (List ℕ))
    (result : Result ⊤ Fault) : Type 0 where
  pub same : now ≡ s
  pub waits : OnOk result (Waits t.what.now new.telling.course)
  pub writes : OnOk result ((by : SearchesBy t s) (lines : List SplitLine) →
      WritesLines t (finds_by t by) old new (line ∷ lines) lines empty full)
  pub fault : IfErr result (λ _. (by : SearchesBy t s) (lines : List SplitLine) →
      (n : ℕ) × Appends empty full (take n (reported_bytes t (finds_by t by) old (line ∷ lines))))
