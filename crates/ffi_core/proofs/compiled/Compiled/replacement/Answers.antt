use Rattle.ffi_core.proofs.ReplaceLemmas.{made_for}
use Rattle.ffi_core.proofs.compiled.Compiled.replacement.Goals as goal

pub returns : goal.returns
returns c =
    made_for c.self.inside.regex.value c.self.inside.options c.args.self.now c.self.inside.groups c.args.is_literal c.args.replacement.now
    c.replacement_of.result c.self.invariant.0 c.self.view_is c.self.invariant.2 c.replacement_of.ensures.literal
    c.replacement_of.ensures.template
