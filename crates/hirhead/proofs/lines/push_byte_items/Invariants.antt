use Rattle.std.proofs.Common.{◌≡◌, ◌<◌, ◌++◌, All, map, take, drop, string_bytes}
use Rattle.hirhead.specs.Lines.{byte_item, after_word}
use Rattle.hirhead.proofs.lines.push_byte_items.Given as goal

abbrev pub invariant-loop-range : goal.invariant-loop-range
invariant-loop-range l =
    (string_bytes l.text ++ after_word (map byte_item (drop l.range-index l.ranges))
    ≡ string_bytes l.initial.text ++ after_word (map byte_item l.ranges))
    × All (λ r. r.1 < 256) (take l.range-index l.ranges)
