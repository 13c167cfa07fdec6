use Rattle.std.proofs.Common.{◌-◌}
use Rattle.lazy_dfa.specs.Stretches.{MovesBackTo}
use Rattle.lazy_dfa.proofs.search.runs.run_reverse.Given as goal

abbrev pub invariant-loop-at : goal.invariant-loop-at
invariant-loop-at l = MovesBackTo l.dfa l.cache l.haystack (record { at = l.from; id = l.fn.id }) l.end (record { at = l.at; id = l.sid })

abbrev pub decreases-loop-at : goal.decreases-loop-at
decreases-loop-at l = l.at - l.end
