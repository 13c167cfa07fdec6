use Rattle.lazy_dfa.proofs.HalfSearches.FoundLemmas.{scan_finds}
use Rattle.lazy_dfa.proofs.laws.scan_laws.scans_find_what_is_wanted.Goals as goal

pub returns : goal.returns
returns c = λ r q name o formed fits within named low is. scan_finds r q name formed fits within named low o is
