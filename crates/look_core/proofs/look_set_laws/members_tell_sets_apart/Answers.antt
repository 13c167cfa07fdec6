use Rattle.look_core.proofs.LookSetLemmas.{same_members}
use Rattle.look_core.proofs.look_set_laws.members_tell_sets_apart.Goals as goal

pub returns : goal.returns
returns c = same_members
