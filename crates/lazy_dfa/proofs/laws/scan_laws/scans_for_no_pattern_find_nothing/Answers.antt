use Rattle.lazy_dfa.proofs.HalfSearches.ReachLemmas.{no_pattern}
use Rattle.lazy_dfa.proofs.laws.scan_laws.scans_for_no_pattern_find_nothing.Goals as goal

pub returns : goal.returns
returns c = λ r q o none is. no_pattern r q o none is
