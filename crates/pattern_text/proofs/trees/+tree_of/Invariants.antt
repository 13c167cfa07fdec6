use Rattle.std.proofs.Common.{◌≡◌, map, take, option_map, string_bytes}
use Rattle.pattern_text.specs.Translated.{translated}
use Rattle.pattern_text.proofs.trees.+tree_of.Given as goal

abbrev pub invariant-trees_of-loop-pattern : goal.invariant-trees_of-loop-pattern
invariant-trees_of-loop-pattern l =
    l.trees.items ≡ map (translated (map (option_map string_bytes) l.names)) (take l.pattern-index l.patterns)
