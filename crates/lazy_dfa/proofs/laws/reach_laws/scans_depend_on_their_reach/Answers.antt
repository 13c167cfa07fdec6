use Rattle.lazy_dfa.proofs.HalfSearches.ReachLemmas.{scan_few}
use Rattle.lazy_dfa.proofs.HalfSearches.IntervalReachLemmas.{scan_by_reach, scan_is_quiet, scan_place_is_reached, reach_is_near}
use Rattle.lazy_dfa.proofs.laws.reach_laws.scans_depend_on_their_reach.Goals as goal

pub returns-clause-alike : goal.returns-clause-alike
returns-clause-alike c = λ r q g in_h in_g agree. scan_by_reach r q g in_h in_g agree

pub returns-clause-quiet : goal.returns-clause-quiet
returns-clause-quiet c = λ r q o in_h is x there. scan_is_quiet r q o in_h is x there

pub returns-clause-place : goal.returns-clause-place
returns-clause-place c = λ r q e is. scan_place_is_reached r q e is

pub returns-clause-within : goal.returns-clause-within
returns-clause-within c = λ r q x there. reach_is_near r q x there

pub returns-clause-few : goal.returns-clause-few
returns-clause-few c = λ r q. scan_few r q
