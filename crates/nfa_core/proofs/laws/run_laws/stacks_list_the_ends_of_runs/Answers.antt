use Rattle.nfa_core.proofs.EndsLemmas.{stack_lists}
use Rattle.nfa_core.proofs.laws.run_laws.stacks_list_the_ends_of_runs.Goals as goal

pub returns : goal.returns
returns c = λ a t p l formed here walk. stack_lists a t p formed here l walk
