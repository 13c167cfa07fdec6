use Rattle.hir_core.proofs.LocalLookLemmas.{same_ends_from}
use Rattle.hir_core.proofs.span_laws.ends_depend_on_the_looks_from_their_start.Goals as goal

pub returns : goal.returns
returns c = λ f g h s x agree i low high. same_ends_from f g h s x agree i (low, high)
