use Rattle.lazy_dfa.proofs.HalfSearches.RestartLemmas.{first_whole, all_split}
use Rattle.lazy_dfa.proofs.laws.scan_laws.passes_begin_anew_where_an_end_splits.Goals as goal

pub returns-clause-first : goal.returns-clause-first
returns-clause-first c = λ r mode earliest h n i k l all here. first_whole r mode earliest h n i k l all here

pub returns-clause-none : goal.returns-clause-none
returns-clause-none c = λ r mode earliest h n i all. all_split r mode earliest h n i all
