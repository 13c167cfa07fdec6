use Rattle.std.proofs.Common.{take}
use Rattle.pattern_search.specs.Texts.{AllMean}
use Rattle.pattern_search.proofs.ForCallers.{read_texts}
use Rattle.line_search.specs.Meant.{line_config}
use Rattle.line_search.proofs.plain_patterns.parse_each.Given as goal

-- the patterns so far have their trees
abbrev pub invariant-loop-number : goal.invariant-loop-number
invariant-loop-number l = AllMean (line_config l.how) (take l.number (read_texts l.texts)) l.trees.items
