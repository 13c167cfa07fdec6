use Rattle.determinize_core.proofs.StartLawLemmas.{known_in_reverse}
use Rattle.determinize_core.proofs.start_laws.what_is_known_in_reverse_is_true.Goals as goal

pub returns-clause-looks : goal.returns-clause-looks
returns-clause-looks c = known_in_reverse
