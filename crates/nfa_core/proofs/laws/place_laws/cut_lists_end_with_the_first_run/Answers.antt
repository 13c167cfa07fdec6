use Rattle.nfa_core.proofs.BehindLemmas.{latest_is_preferred}
use Rattle.nfa_core.proofs.laws.place_laws.cut_lists_end_with_the_first_run.Goals as goal

pub returns : goal.returns
returns c = λ a t i q lists formed here listed. latest_is_preferred a t i formed here.0 q here.1 lists listed
