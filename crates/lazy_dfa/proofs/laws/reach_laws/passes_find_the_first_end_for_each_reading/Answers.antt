use Rattle.lazy_dfa.proofs.HalfSearches.ReadingLemmas.{pass_finds_first_anyhow}
use Rattle.lazy_dfa.proofs.laws.reach_laws.passes_find_the_first_end_for_each_reading.Goals as goal

pub returns : goal.returns
returns c = λ r mode h s e i q holds o leftmost formed plain below within named low agree is.
    pass_finds_first_anyhow r mode h s e i q leftmost formed plain below within named low holds agree o is
