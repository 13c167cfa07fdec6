use Rattle.lazy_dfa.specs.Caches.{IsCacheOf}
use Rattle.lazy_dfa.specs.Overlapping.{CanContinue}
use Rattle.tests_client.proofs.calling.walking.first_ends_counted.Given as goal

abbrev pub invariant-loop : goal.invariant-loop
invariant-loop g l = IsCacheOf l.dfa l.cache × CanContinue l.dfa l.cache l.input l.state.walk
