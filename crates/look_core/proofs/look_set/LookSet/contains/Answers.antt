use Rattle.std.proofs.Common.{◌==◌, not, bit_and, ap, ◌∙◌}
use Rattle.look_core.specs.LookSets.{has_look}
use Rattle.look_core.proofs.LookSetLemmas.{contains_is}
use Rattle.look_core.proofs.look_set.LookSet.contains.Goals as goal

pub returns : goal.returns
returns c = ap (λ n. not (bit_and c.self.inside.bits n == 0)) c.as_repr.ensures ∙ contains_is c.self.inside.bits c.args.look
    ∙ ap (λ s. has_look s c.args.look) c.self.view_is
