use Rattle.lazy_dfa.proofs.HalfSearches.PassQuitLemmas.{pass_units}
use Rattle.lazy_dfa.proofs.laws.pass_laws.passes_read_one_unit_more_at_most.Goals as goal

pub returns : goal.returns
returns c = λ r mode earliest h n i. pass_units r mode earliest h n i
