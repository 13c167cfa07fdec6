use Rattle.std.proofs.Common.{length, ap, ◌∙◌}
use Rattle.look_core.specs.LookSets.{members}
use Rattle.look_core.proofs.LookSetLemmas.{count-members}
use Rattle.look_core.proofs.look_set.LookSet.len.Goals as goal

pub returns : goal.returns
returns c = count-members c.self.inside.bits c.self.invariant ∙ ap (λ s. length (members s)) c.self.view_is
