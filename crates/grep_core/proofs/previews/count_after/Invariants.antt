use Rattle.std.proofs.Common.{◌≡◌, ◌≤◌, not, nat_lt, map, count_by, take}
use Rattle.line_search.specs.LineMatchers.{span_pair}
use Rattle.grep_core.proofs.previews.count_after.Given as goal

abbrev pub invariant-loop-span : goal.invariant-loop-span
invariant-loop-span l =
    (l.count ≡ count_by (λ s. not (nat_lt s.0 l.len)) (map span_pair (take l.span-index l.shown))) × (l.count ≤ l.span-index)
