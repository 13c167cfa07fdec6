use Rattle.nfa_core.proofs.EndsLemmas.{chain_listed}
use Rattle.nfa_core.proofs.laws.run_laws.chains_find_listed_ends.Goals as goal

pub returns : goal.returns
returns c = λ a t p e r formed here chain finds. chain_listed a t p formed here e r chain finds
