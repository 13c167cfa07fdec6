use Rattle.std.proofs.Common.{◌≡◌, drop, map}
use Rattle.std.specs.List.{list_any}
use Rattle.line_search.specs.LineMatchers.{span_pair}
use Rattle.text_report.specs.Touching.{StartInOrder, counts_at}
use Rattle.text_report.proofs.touching.has_one.Given as goal

abbrev pub invariant-loop-span : goal.invariant-loop-span
invariant-loop-span l = StartInOrder (map span_pair l.found) → StartInOrder (map span_pair (drop l.span-index l.found))
    × (list_any (counts_at l.begun l.start l.end) (map span_pair l.found)
    ≡ list_any (counts_at l.begun l.start l.end) (map span_pair (drop l.span-index l.found)))
