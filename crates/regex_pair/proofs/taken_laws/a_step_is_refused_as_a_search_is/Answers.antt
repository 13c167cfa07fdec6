use Rattle.regex_pair.proofs.TakenLemmas.{refused_by_step}
use Rattle.regex_pair.proofs.taken_laws.a_step_is_refused_as_a_search_is.Goals as goal

pub returns : goal.returns
returns c = refused_by_step
