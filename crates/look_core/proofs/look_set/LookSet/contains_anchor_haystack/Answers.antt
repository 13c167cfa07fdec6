use Rattle.std.proofs.Common.{◌∙◌}
use Rattle.look_core.specs.Codes.{is_anchor_haystack}
use Rattle.look_core.proofs.LookSetLemmas.{has_any-flip}
use Rattle.look_core.proofs.look_set.LookSet.contains_anchor_haystack.Goals as goal

pub returns : goal.returns
returns c = c.contains_any.ensures ∙ has_any-flip is_anchor_haystack c.args.self
