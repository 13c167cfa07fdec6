use Rattle.std.proofs.Common.{◌≡◌, ◌++◌, drop, string_bytes}
use Rattle.hirhead.specs.HasLines.{AllFit}
use Rattle.hirhead.specs.Lines.{pattern_lines, lines_text}
use Rattle.hirhead.proofs.lines.report_patterns.Given as goal

-- what is left has the lines that aren't printed yet, and if it fits all trees do
abbrev pub invariant-loop-number : goal.invariant-loop-number
invariant-loop-number l =
    (string_bytes l.text ++ lines_text (pattern_lines (drop l.number l.trees))
    ≡ string_bytes l.initial.text ++ lines_text (pattern_lines l.trees))
    × (AllFit 250 (drop l.number l.trees) → AllFit 250 l.trees)
