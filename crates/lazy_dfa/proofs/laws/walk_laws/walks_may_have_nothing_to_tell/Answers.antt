use Rattle.lazy_dfa.proofs.OverlappingWalks.RestLemmas.{rest_of_no_pattern}
use Rattle.lazy_dfa.proofs.laws.walk_laws.walks_may_have_nothing_to_tell.Goals as goal

pub returns-clause-no_pattern : goal.returns-clause-no_pattern
returns-clause-no_pattern c = λ r q none. rest_of_no_pattern r q none
