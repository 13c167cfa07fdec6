use Rattle.std.proofs.Common.{◌≡◌, map, take}
use Rattle.meta_regex.specs.Regexes.{mark, overlaid}
use Rattle.meta_regex.proofs.matching_patterns.write_marks.Given as goal

-- the marks so far lie at their indices
abbrev pub invariant-loop-at : goal.invariant-loop-at
invariant-loop-at l = l.marks ≡ overlaid (take l.at (map mark l.tests)) l.fn.marks
