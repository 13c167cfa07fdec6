use Rattle.captures.proofs.CopyLemmas.{all_copied, one_more_copied}
use Rattle.captures.proofs.copies.copies_of.Goals as goal

pub loop-group-preserved : goal.loop-group-preserved
loop-group-preserved c = λ config texts of.
    one_more_copied config texts c.args.groups.now c.loop-group.copies.items c.push.new.groups.items c.loop-group.group-index
    c.group-item.result c.in_ok-copy_of.field-0 c.loop-group-test.true c.group-item.is c.in_ok-push.ensures (c.in_ok-copy_of.ensures config)
    (c.loop-group.invariant config texts of)

pub returns : goal.returns
returns c = λ config texts of.
    all_copied config texts c.args.groups.now c.loop-group.copies.items c.loop-group.group-index c.loop-group-test.false
    (c.loop-group.invariant config texts of)
