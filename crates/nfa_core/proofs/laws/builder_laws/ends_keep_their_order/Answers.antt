use Rattle.nfa_core.proofs.TableLemmas.{ends_kept}
use Rattle.nfa_core.proofs.laws.builder_laws.ends_keep_their_order.Goals as goal

pub returns : goal.returns
returns c = λ b x y t q i can inside place. ends_kept b x y can t q i inside place
