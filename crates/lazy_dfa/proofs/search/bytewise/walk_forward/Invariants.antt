use Rattle.std.proofs.Common.{◌-◌}
use Rattle.lazy_dfa.specs.Stretches.{MovesTo}
use Rattle.lazy_dfa.proofs.search.bytewise.walk_forward.Given as goal

abbrev pub invariant-loop-at : goal.invariant-loop-at
invariant-loop-at l = MovesTo l.dfa l.cache l.haystack (record { at = l.from; id = l.fn.id }) l.limit (record { at = l.at; id = l.sid })

abbrev pub decreases-loop-at : goal.decreases-loop-at
decreases-loop-at l = l.limit - l.at
