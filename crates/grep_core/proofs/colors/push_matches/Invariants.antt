use Rattle.std.proofs.Common.{◌≡◌, ◌++◌, map, drop}
use Rattle.grep_core.specs.Colors.{marked_from}
use Rattle.grep_core.specs.Printing.{moved}
use Rattle.line_search.specs.LineMatchers.{span_pair}
use Rattle.grep_core.proofs.colors.push_matches.Given as goal

abbrev pub invariant-loop-span : goal.invariant-loop-span
invariant-loop-span l =
    l.out.items ++ marked_from l.colors l.own l.part l.text l.at (map (moved l.left) (map span_pair (drop l.span-index l.found)))
    ≡ l.initial.out.items ++ marked_from l.colors l.own l.part l.text 0 (map (moved l.left) (map span_pair l.found))
