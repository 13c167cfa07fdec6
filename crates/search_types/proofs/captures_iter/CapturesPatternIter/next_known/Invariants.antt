use Rattle.std.proofs.Common.{◌≡◌, length}
use Rattle.search_types.specs.CapturesValue.{known_spans}
use Rattle.search_types.proofs.captures_iter.CapturesPatternIter.next_known.Given as goal

-- only groups without a span were skipped
abbrev pub invariant-loop-span : goal.invariant-loop-span
invariant-loop-span l = known_spans l.self ≡ known_spans l.fn.self

abbrev pub decreases-loop-span : goal.decreases-loop-span
decreases-loop-span l = length l.self
