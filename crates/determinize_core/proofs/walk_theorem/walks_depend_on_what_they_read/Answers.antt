use Rattle.determinize_core.proofs.DependLemmas.{walks_alike}
use Rattle.determinize_core.proofs.walk_theorem.walks_depend_on_what_they_read.Goals as goal

pub returns : goal.returns
returns c = walks_alike
