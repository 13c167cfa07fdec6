use Rattle.lazy_dfa.proofs.HalfSearches.HasReachLemmas.{scan_has_reach_back}
use Rattle.lazy_dfa.proofs.laws.reach_laws.scans_back_reach_a_place.Goals as goal

pub returns : goal.returns
returns c = scan_has_reach_back
