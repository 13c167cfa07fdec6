use Rattle.nfa_core.proofs.EndsLemmas.{listed_run}
use Rattle.nfa_core.proofs.EndsLemmas.{run_listed}
use Rattle.nfa_core.proofs.EndsLemmas.{ends_once}
use Rattle.nfa_core.proofs.laws.run_laws.the_ends_are_those_of_runs.Goals as goal

pub returns : goal.returns
returns c = record {
  listed = λ a t p e formed here h. listed_run a t p formed here e h;
  all = λ a t p e r formed here run. run_listed a t p formed here e r run;
  once = ends_once;
}
