use Rattle.lazy_dfa.proofs.HalfSearches.FoundLemmas.{scan_finds_first}
use Rattle.lazy_dfa.proofs.laws.reach_laws.scans_find_the_first_ends_for_each_reading.Goals as goal

pub returns : goal.returns
returns c = λ r q name holds o leftmost late formed plain fits within named low agree is.
    scan_finds_first r q name formed fits within named low leftmost late plain holds agree o is
