use Rattle.hir_regex.proofs.ReachLemmas.{answer_reaches}
use Rattle.hir_regex.proofs.reach_laws.answers_depend_on_their_reach.Goals as goal

pub returns : goal.returns
returns c = answer_reaches
