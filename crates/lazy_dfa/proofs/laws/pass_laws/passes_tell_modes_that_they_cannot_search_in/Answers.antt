use Rattle.lazy_dfa.proofs.HalfSearches.PassQuitLemmas.{told_is_mode}
use Rattle.lazy_dfa.proofs.laws.pass_laws.passes_tell_modes_that_they_cannot_search_in.Goals as goal

pub returns-clause-alone : goal.returns-clause-alone
returns-clause-alone c = λ r mode m earliest h n i is. told_is_mode r mode earliest h n i m is
