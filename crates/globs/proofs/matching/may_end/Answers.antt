use Rattle.std.proofs.Common.{◌∙◌, ◌-◌, length, sym, arith}
use Rattle.globs.specs.Matching.{item_of}
use Rattle.globs.proofs.EndLemmas.{items_of_fail}
use Rattle.globs.proofs.matching.may_end.Goals as goal

pub returns : goal.returns
returns c = λ refused.
    items_of_fail item_of c.args.c c.args.items.now (length c.args.items.now - 1) c.index-items-last.result (omega arith) c.index-items-last.is
    (sym c.may_take.ensures ∙ refused)
