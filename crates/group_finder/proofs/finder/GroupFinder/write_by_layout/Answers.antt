use Rattle.std.proofs.Common.{length}
use Rattle.group_finder.proofs.LaidLemmas.{found_by_steps}
use Rattle.group_finder.proofs.finder.GroupFinder.write_by_layout.Goals as goal

pub returns-clause-written : goal.returns-clause-written
returns-clause-written c = λ yes config text a of parsed t e ends.
    found_by_steps config text a c.args.haystack.now c.args.start c.args.end (length c.args.slots.now) c.args.self.now.layout c.in-Some.steps
    c.deref.result.now c.slots_along.new.slots c.see_bytes.ensures of.laid c.in-Some.is c.deref.ensures.value c.slots_along.ensures parsed t e ends
