use Rattle.std.proofs.Common.{◌<◌, length, sym, ◌∙◌, arith}
use Rattle.templates.proofs.ReadingLemmas.{called_here, called_later}
use Rattle.templates.proofs.reading.index_of.Goals as goal

pub returns-then-has_name : goal.returns-then-has_name
returns-then-has_name c =
    let lt : c.loop-group.group < length c.args.names.now = omega arith in
    sym (c.loop-group.invariant ∙ called_here c.args.names.now c.args.name.now c.loop-group.group lt (sym c.if-has_name.ensures))

pub loop-group-preserved : goal.loop-group-preserved
loop-group-preserved c =
    let lt : c.loop-group.group < length c.args.names.now = omega arith in
    c.loop-group.invariant ∙ called_later c.args.names.now c.args.name.now c.loop-group.group lt (sym c.if-has_name.ensures)
