use Rattle.lazy_dfa.proofs.HalfSearches.IntervalReachLemmas.{scan_in_span}
use Rattle.lazy_dfa.proofs.laws.scan_laws.scans_find_places_in_their_span.Goals as goal

pub returns : goal.returns
returns c = λ r q e is. scan_in_span r q e is
