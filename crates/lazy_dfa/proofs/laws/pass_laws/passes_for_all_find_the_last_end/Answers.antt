use Rattle.lazy_dfa.proofs.HalfSearches.PassLemmas.{pass_finds_last}
use Rattle.lazy_dfa.proofs.laws.pass_laws.passes_for_all_find_the_last_end.Goals as goal

pub returns : goal.returns
returns c = λ r mode h s e i q o kind formed below within named low is. pass_finds_last r mode h s e i q formed below within named low o
    kind is
