use Rattle.lazy_dfa.proofs.HalfSearches.IntervalReachLemmas.{pass_by_reach, pass_is_quiet}
use Rattle.lazy_dfa.proofs.laws.reach_laws.passes_depend_on_their_reach.Goals as goal

pub returns-clause-alike : goal.returns-clause-alike
returns-clause-alike c = λ r mode earliest h g n i agree. pass_by_reach r mode earliest h g n i agree

pub returns-clause-quiet : goal.returns-clause-quiet
returns-clause-quiet c = λ r mode earliest h n i o is x there. pass_is_quiet r mode earliest h n i o is x there
