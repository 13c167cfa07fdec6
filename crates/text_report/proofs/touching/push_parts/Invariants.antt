use Rattle.std.proofs.Common.{◌≡◌, ◌++◌, drop, map}
use Rattle.std.specs.List.{filter}
use Rattle.line_search.specs.LineMatchers.{span_pair}
use Rattle.text_report.specs.Touching.{StartInOrder, counts_at, part_at}
use Rattle.text_report.proofs.touching.push_parts.Given as goal

abbrev pub invariant-loop-span : goal.invariant-loop-span
invariant-loop-span l = StartInOrder (map span_pair l.found) → StartInOrder (map span_pair (drop l.span-index l.found))
    × (map span_pair l.parts.items
    ++ map (part_at l.start l.end l.size) (filter (counts_at l.begun l.start l.end) (map span_pair (drop l.span-index l.found)))
    ≡ map span_pair l.initial.parts.items
    ++ map (part_at l.start l.end l.size) (filter (counts_at l.begun l.start l.end) (map span_pair l.found)))
