use Rattle.regex_hir.specs.Meaning.{meaning}
use Rattle.group_finder.proofs.LayoutLemmas.{lays_part}
use Rattle.group_finder.proofs.layout.add_part.Goals as goal

pub returns : goal.returns
returns c =
    lays_part (meaning c.args.hir.now) c.lengths_of.new.set c.in-Some.lengths c.args.steps.now.items c.push.new.self.items c.args.ahead
    c.before-2.result c.in-Some-step_over.step c.in-Some-step_over.rest c.in-Some.ensures.reads c.in-Some-step_over.ensures
    c.in_ok-push.ensures.items c.before-2.ensures.rest c.before-2.ensures.follow
