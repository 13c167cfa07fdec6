use Rattle.std.proofs.Common.{length}
use Rattle.group_finder.proofs.StepLemmas.{slots_put}
use Rattle.group_finder.proofs.steps.slots_along.Goals as goal

pub returns : goal.returns
returns c =
    slots_put c.args.haystack.now c.args.steps.now c.args.start c.args.end (length c.args.slots.now) c.clear.new.slots c.walk.new.slots
    c.save.new.slots c.save-2.new.slots c.clear.ensures c.walk.ensures c.save.ensures c.save-2.ensures
