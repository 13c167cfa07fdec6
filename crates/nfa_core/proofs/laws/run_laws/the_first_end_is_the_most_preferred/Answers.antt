use Rattle.nfa_core.proofs.EndsLemmas.{most_preferred}
use Rattle.nfa_core.proofs.EndsLemmas.{most_preferred_wanted}
use Rattle.nfa_core.proofs.laws.run_laws.the_first_end_is_the_most_preferred.Goals as goal

pub returns : goal.returns
returns c = record {
  all = λ a t p formed here. most_preferred a t p formed here;
  wanted = λ a t p wanted formed here. most_preferred_wanted a t p formed here wanted;
}
