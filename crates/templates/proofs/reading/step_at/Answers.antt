use Rattle.std.proofs.Common.{◌==◌, not, refl, ap, ◌∙◌}
use Rattle.std.specs.List.{prefix_len}
use Rattle.templates.proofs.ReadingLemmas.{plain_step}
use Rattle.templates.proofs.reading.step_at.Goals as goal

pub returns : goal.returns
returns c =
    plain_step c.args.names.now c.args.replacement.now c.args.at c.requires c.len_before-len.result _ c.if-replacement-at-eq36.false
    (c.len_before-len.ensures.value ∙ ap (prefix_len (λ b. not (b == 36))) c.after.ensures) refl
