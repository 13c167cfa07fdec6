use Rattle.regex_pair.proofs.ReachLemmas.{joined_has_reach}
use Rattle.regex_pair.proofs.pair_laws.joins_reach_a_place.Goals as goal

pub returns : goal.returns
returns c = λ p q o pair within is. joined_has_reach p q o pair.is_forward within is
