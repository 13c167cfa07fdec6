use Rattle.determinize_core.proofs.WalkedLemmas.{lists_are_lists}
use Rattle.determinize_core.proofs.walk_theorem.walked_lists_are_lists.Goals as goal

pub returns : goal.returns
returns c = lists_are_lists
