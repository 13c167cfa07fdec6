use Rattle.std.proofs.Common.{◌++◌, ap, ◌∙◌}
use Rattle.templates.specs.Expansion.{pieces_text}
use Rattle.templates.proofs.template.Template.literal.Goals as goal

pub returns : goal.returns
returns c =
    λ group_text. c.in_ok-push_literal.ensures group_text ∙ ap (λ ps. pieces_text group_text ps ++ c.args.bytes.now) c.new-pieces.ensures.items
