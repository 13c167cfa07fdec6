use Rattle.lazy_dfa.proofs.HalfSearches.AnewLemmas.{again}
use Rattle.lazy_dfa.proofs.laws.scan_laws.scans_begin_anew_over_one_byte_less.Goals as goal

pub returns-clause-more : goal.returns-clause-more
returns-clause-more c = λ r q l free. again r q free l
