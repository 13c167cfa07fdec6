use Rattle.lazy_dfa.proofs.HalfSearches.NearestLemmas.{pass_finds_nearest}
use Rattle.lazy_dfa.proofs.laws.pass_laws.earliest_passes_find_the_nearest_end.Goals as goal

pub returns : goal.returns
returns c = λ r mode h s e i q o formed below within named low is. pass_finds_nearest r mode h s e i q formed below within named low o is
