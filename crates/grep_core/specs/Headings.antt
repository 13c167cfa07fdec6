-- What is printed for an input under a heading: its name once above its lines, and not before each of them.
use Rattle.std.specs.Prelude.{◌≡◌, ℕ, ◌+◌, Bool, false, List, [], ◌∷◌, ◌++◌, length, drop, Option, option_map, if◌then◌else◌}
use Rattle.std.specs.Io.KnownBytes.{append_known}
use Rattle.grep_core.specs.declared.separator_state.SeparatorState.TheVariants.{NonePrinted}
use Rattle.grep_core.specs.declared.output_options.OutputOptions.{OutputOptions}
use Rattle.line_search.specs.LineMatchers.{LineMatcher}
use Rattle.grep_core.specs.Report.{name_line, report}

-- The heading of an input. If something is printed for earlier inputs, an empty line separates it from that.
abbrev pub heading : OutputOptions → List ℕ → Bool → Bool → List ℕ
heading w name with_name printed = (if printed then 10 ∷ [] else []) ++ (if with_name then name_line w name else [])

-- A text under a heading. An empty text has none.
abbrev pub under : List ℕ → List ℕ → List ℕ
under head [] = []
under head (b ∷ text) = head ++ b ∷ text

-- What is printed for an input under a heading. Groups of lines are separated from each other, and not from those of earlier inputs.
abbrev pub report_under : OutputOptions → LineMatcher → List ℕ → Bool → Bool → List ℕ → List ℕ
report_under w f name with_name printed text = under (heading w name with_name printed) (report w f name false NonePrinted text)

-- ---- a writer with a heading
-- What it holds once its heading is whole, if so many bytes of the heading are written.
abbrev pub with_heading : Option (List ℕ) → List ℕ → ℕ → Option (List ℕ)
with_heading known head done = append_known known (drop done head)

-- These bytes, after how many they are with those that may follow, and after the heading. Only the bytes at the end change with a write.
abbrev pub tagged : ℕ → List ℕ → List ℕ → List ℕ
tagged left head bytes = (length bytes + left) ∷ (length head ∷ (head ++ bytes))
