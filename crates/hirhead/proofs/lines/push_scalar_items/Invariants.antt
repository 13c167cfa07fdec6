use Rattle.std.proofs.Common.{◌≡◌, ◌++◌, All, map, take, drop, string_bytes}
use Rattle.hirhead.specs.HasLines.{AreScalars}
use Rattle.hirhead.specs.Lines.{scalar_item, after_word}
use Rattle.hirhead.proofs.lines.push_scalar_items.Given as goal

abbrev pub invariant-loop-range : goal.invariant-loop-range
invariant-loop-range l =
    (string_bytes l.text ++ after_word (map scalar_item (drop l.range-index l.ranges))
    ≡ string_bytes l.initial.text ++ after_word (map scalar_item l.ranges))
    × All AreScalars (take l.range-index l.ranges)
