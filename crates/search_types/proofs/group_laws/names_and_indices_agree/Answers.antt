use Rattle.search_types.proofs.GroupLaws.{names_agree}
use Rattle.search_types.proofs.group_laws.names_and_indices_agree.Goals as goal

pub returns : goal.returns
returns c = names_agree
