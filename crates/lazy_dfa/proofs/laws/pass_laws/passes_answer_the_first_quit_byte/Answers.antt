use Rattle.lazy_dfa.proofs.HalfSearches.PassQuitLemmas.{pass_quits, quits_first, found_without_quit, without_quit_found}
use Rattle.lazy_dfa.proofs.laws.pass_laws.passes_answer_the_first_quit_byte.Goals as goal

pub returns-clause-quits : goal.returns-clause-quits
returns-clause-quits c = λ r mode earliest h n i b x is. pass_quits r mode earliest h n i b x is

pub returns-clause-ahead : goal.returns-clause-ahead
returns-clause-ahead c = λ r mode earliest h n i b x none there. quits_first r mode earliest h n i b x none there

pub returns-clause-found : goal.returns-clause-found
returns-clause-found c = λ r mode earliest h n i o is. found_without_quit r mode earliest h n i o is

pub returns-clause-none : goal.returns-clause-none
returns-clause-none c = λ r mode earliest h n i fit none all. without_quit_found r mode earliest h n i fit none all
