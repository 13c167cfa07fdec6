use Rattle.nfa_core.proofs.EndsLemmas.{walk_meets}
use Rattle.nfa_core.proofs.laws.run_laws.walks_meet_the_ends_of_runs.Goals as goal

pub returns : goal.returns
returns c = λ a t p after formed here v. walk_meets a t p formed here after v
