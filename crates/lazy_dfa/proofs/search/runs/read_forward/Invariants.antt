use Rattle.std.proofs.Common.{◌-◌}
use Rattle.lazy_dfa.specs.Stretches.{MovesTo}
use Rattle.lazy_dfa.proofs.search.runs.read_forward.Given as goal

abbrev pub invariant-stretch : goal.invariant-stretch
invariant-stretch l = MovesTo l.dfa l.cache l.haystack (record { at = l.from; id = l.fn.id }) l.end l.moved

abbrev pub decreases-stretch : goal.decreases-stretch
decreases-stretch l = l.end - l.moved.at
