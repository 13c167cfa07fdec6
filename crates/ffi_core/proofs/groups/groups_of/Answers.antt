use Rattle.std.proofs.Common.{map, subst}
use Rattle.meta_regex.specs.declared.options.Options as engine
use Rattle.captures.specs.Groups.{AreGroupsOf}
use Rattle.ffi_core.proofs.groups.groups_of.Goals as goal

pub returns-in-Ok-clause-made : goal.returns-in-Ok-clause-made
returns-in-Ok-clause-made c =
    subst (λ (e : engine.Options). AreGroupsOf e (map (λ t. t.now) c.args.texts.now) c.in-Ok.groups) c.options.ensures.value
    c.in-Ok.ensures.made
