use Rattle.determinize_core.proofs.HaystackLemmas.{state_there, states_len}
use Rattle.determinize_core.proofs.walk_theorem.walks_go_over_haystacks.Goals as goal

pub returns-clause-states : goal.returns-clause-states
returns-clause-states c = λ a t kind q behind bytes k l. state_there a t kind q behind bytes k l

pub returns-clause-len : goal.returns-clause-len
returns-clause-len c = λ a t kind q behind bytes. states_len a t kind q behind bytes
