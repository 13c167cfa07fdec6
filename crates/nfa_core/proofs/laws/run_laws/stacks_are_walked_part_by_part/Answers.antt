use Rattle.nfa_core.proofs.ListsLemmas.{lists_append}
use Rattle.nfa_core.proofs.ListsLemmas.{lists_split}
use Rattle.nfa_core.proofs.ListsLemmas.{one_list}
use Rattle.nfa_core.proofs.laws.run_laws.stacks_are_walked_part_by_part.Goals as goal

pub returns : goal.returns
returns c = record {
  joined = λ steps answer xs ys l m walk other. lists_append steps answer walk ys m other;
  split = λ steps answer xs ys l walk. lists_split steps answer xs ys l walk;
  one = λ steps answer stack l m walk other. one_list steps answer walk m other;
}
