-- The definition of a report of records, run on a small text. What is expected is what GNU grep 3.8 prints with -z for the pattern `a`, and
-- ripgrep 13 with --null-data for the rows of long lines.
use Rattle.std.proofs.Common.{◌≡◌, ℕ, ◌+◌, ◌==◌, Bool, true, false, List, [], ◌∷◌, ◌++◌, codes, decimal, Some, None, if◌then◌else◌}
use Rattle.std.proofs.Common.{refl, rules}
use Rattle.std.proofs.lemmas.Grind.{common_steps}
use Rattle.grep_core.specs.Report.{as_it_is}
use Rattle.grep_core.specs.declared.output_options.GroupSeparator.TheVariants.{Hyphens}
use Rattle.grep_core.specs.declared.output_options.OutputOptions.{OutputOptions}
use Rattle.grep_core.specs.declared.output_options.Print.TheVariants.{Lines, Matches, Count, NameIfAny}
use Rattle.grep_core.specs.declared.separator_state.SeparatorState.TheVariants.{NonePrinted}
use Rattle.line_search.specs.LineMatchers.{LineMatcher}
use Rattle.line_search.specs.Lines.{ended, unended}
use Rattle.text_report.specs.LineSpans.{split_at}
use Rattle.text_report.specs.Records.{report_records, selected_records}

-- each `a` is a match
abbrev spans_from : ℕ → List ℕ → List (ℕ × ℕ)
spans_from at [] = []
spans_from at (b ∷ bs) = if b == 97 then (at, at + 1) ∷ spans_from (at + 1) bs else spans_from (at + 1) bs

abbrev has_a : List ℕ → Bool
has_a [] = false
has_a (b ∷ bs) = if b == 97 then true else has_a bs

abbrev letters : LineMatcher
letters = record {
  has_match = λ line. has_a line.bytes;
  spans = λ line. spans_from 0 line.bytes;
  replaced = λ template line. as_it_is line [];
}

-- a record, with text after it
abbrev part : List ℕ → List ℕ → List ℕ
part text rest = text ++ 0 ∷ rest

-- a line, with text after it
abbrev line : List ℕ → List ℕ → List ℕ
line text rest = text ++ 10 ∷ rest

-- four records, two of them with a line feed; the last one has no zero byte
abbrev text : List ℕ
text = part (codes "a1") (part (line (codes "b") (codes "c")) (part [] (line (codes "a2") (codes "a3"))))

abbrev plain : OutputOptions
plain = record {
  invert = false;
  print = Lines;
  numbers = false;
  columns = false;
  each_match = false;
  offsets = false;
  context = None;
  most = None;
  color = None;
  match_separator = None;
  context_separator = None;
  zero_names = false;
  initial_tab = false;
  trim = false;
  most_bytes = None;
  preview = false;
  width = 0;
  groups = Hyphens;
  replacement = None;
  terminator = 0;
}

abbrev printed : OutputOptions → List ℕ
printed w = report_records w letters (codes "t") false NonePrinted text

parts : split_at 0 text
    ≡ ended (codes "a1") ∷ ended (line (codes "b") (codes "c")) ∷ ended [] ∷ unended (line (codes "a2") (codes "a3")) ∷ []
parts = refl

no_part_after_the_last : split_at 0 (part (codes "a") []) ≡ ended (codes "a") ∷ []
no_part_after_the_last = refl

whole_records : printed plain ≡ part (codes "a1") (part (line (codes "a2") (codes "a3")) [])
whole_records = refl

-- -n -b
numbered : printed (record plain { numbers = true; offsets = true })
    ≡ part (decimal 1 ++ (codes ":" ++ (decimal 0 ++ codes ":a1")))
    (part (decimal 4 ++ (codes ":" ++ (decimal 8 ++ line (codes ":a2") (codes "a3")))) [])
numbered = Prim.search (rules, common_steps)

-- -o -b
matches_alone : printed (record plain { print = Matches; offsets = true })
    ≡ part (decimal 0 ++ codes ":a") (part (decimal 8 ++ codes ":a") (part (decimal 11 ++ codes ":a") []))
matches_alone = Prim.search (rules, common_steps)

-- -A1: the separator line ends in a line feed
with_context : printed (record plain { context = Some (record { before = 0; after = 1; first = 0 }) })
    ≡ part (codes "a1") (part (line (codes "b") (codes "c")) (line (codes "--") (part (line (codes "a2") (codes "a3")) [])))
with_context = refl

-- -c
counted : printed (record plain { print = Count }) ≡ line (decimal 2) []
counted = refl

two_selected : selected_records plain letters text ≡ 2
two_selected = refl

-- -l
named : printed (record plain { print = NameIfAny }) ≡ line (codes "t") []
named = refl

-- -M3
omitted : printed (record plain { most_bytes = Some 3 }) ≡ part (codes "a1") (part (codes "[Omitted long matching line]") [])
omitted = refl

-- -M3 --max-columns-preview
previewed : printed (record plain { most_bytes = Some 3; preview = true })
    ≡ part (codes "a1") (part (line (codes "a2") (codes " [... omitted end of long line]")) [])
previewed = refl
