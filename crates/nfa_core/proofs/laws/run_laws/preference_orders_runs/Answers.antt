use Rattle.nfa_core.proofs.CutLemmas.{one_is_preferred}
use Rattle.nfa_core.proofs.CutLemmas.{preferred_one_way}
use Rattle.nfa_core.proofs.PairLemmas.{pairs_equal}
use Rattle.nfa_core.specs.Places.{same_pair}
use Rattle.nfa_core.proofs.laws.run_laws.preference_orders_runs.Goals as goal

pub returns : goal.returns
returns c = record {
  either = λ steps p r s chain. one_is_preferred same_pair pairs_equal steps p r s chain;
  one = λ steps p r s a b. preferred_one_way same_pair pairs_equal steps p r s a b;
}
