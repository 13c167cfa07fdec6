use Rattle.regex_pair.proofs.TakenLemmas.{one_more_by_step}
use Rattle.regex_pair.proofs.taken_laws.a_step_takes_one_more.Goals as goal

pub returns : goal.returns
returns c = one_more_by_step
