use Rattle.lazy_dfa.proofs.HalfSearches.ScanLemmas.{scan_mode_told}
use Rattle.lazy_dfa.proofs.laws.scan_laws.scans_tell_modes_that_they_cannot_search_in.Goals as goal

pub returns-clause-alone : goal.returns-clause-alone
returns-clause-alone c = λ r q m is. scan_mode_told r q m is
