use Rattle.regex_hir.specs.Meaning.{meaning}
use Rattle.group_finder.proofs.LayoutLemmas.{laid_by}
use Rattle.group_finder.proofs.layout.layout_of.Goals as goal

pub returns : goal.returns
returns c =
    laid_by (meaning c.args.hir.now) c.empty.result c.new-steps.result.items c.add.new.steps.items _ c.in_ok-add.field-0 _ c.new-steps.ensures.items
    c.in-Some.is c.in_ok-add.ensures c.reverse.ensures.items
