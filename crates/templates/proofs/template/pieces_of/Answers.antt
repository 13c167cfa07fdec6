use Rattle.std.proofs.Common.{arith}
use Rattle.templates.proofs.TextLemmas.{read_on, read_whole}
use Rattle.templates.proofs.template.pieces_of.Goals as goal

pub loop-at-preserved : goal.loop-at-preserved
loop-at-preserved c =
    read_on c.args.names.now c.args.replacement.now c.loop-at.at _ _ _ c.loop-at.pieces.items c.push_literal.new.pieces.items c.push_group.new.pieces.items c.loop-at.invariant c.step_at-group.ensures
    c.in_ok-push_literal.ensures c.in_ok-push_group.ensures

pub returns : goal.returns
returns c =
    read_whole c.args.names.now c.args.replacement.now c.loop-at.at c.loop-at.pieces.items (omega arith) c.loop-at.invariant
