use Rattle.nfa_core.proofs.BehindLemmas.{list_matches}
use Rattle.nfa_core.proofs.laws.place_laws.uncut_lists_have_all_ends.Goals as goal

pub returns : goal.returns
returns c = λ a t i q lists formed here listed k h. list_matches a t i formed here.0 q here.1 lists listed k h
