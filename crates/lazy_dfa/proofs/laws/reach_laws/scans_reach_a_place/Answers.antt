use Rattle.lazy_dfa.proofs.HalfSearches.HasReachLemmas.{scan_has_reach}
use Rattle.lazy_dfa.proofs.laws.reach_laws.scans_reach_a_place.Goals as goal

pub returns : goal.returns
returns c = λ r q o up sound within is. scan_has_reach r q o up sound within is
