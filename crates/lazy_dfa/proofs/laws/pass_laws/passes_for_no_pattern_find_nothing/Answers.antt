use Rattle.lazy_dfa.proofs.HalfSearches.PassQuitLemmas.{dead_pass}
use Rattle.lazy_dfa.proofs.laws.pass_laws.passes_for_no_pattern_find_nothing.Goals as goal

pub returns : goal.returns
returns c = λ r mode earliest h n i o none is. dead_pass r mode earliest h n i o none is
