use Rattle.lazy_dfa.proofs.HalfSearches.PassLemmas.{pass_finds_first}
use Rattle.lazy_dfa.proofs.laws.pass_laws.leftmost_passes_find_the_first_end.Goals as goal

pub returns : goal.returns
returns c = λ r mode h s e i q o kind formed below within named low is. pass_finds_first r mode h s e i q formed below within named low o
    kind is
