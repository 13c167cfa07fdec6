use Rattle.std.proofs.Common.{◌∙◌, lit<}
use Rattle.std.proofs.lemmas.Iterator.Consumers.{YieldsList-end}
use Rattle.std.proofs.lemmas.Iterator.Splits.{YieldsList-from_str_split}
use Rattle.grep_cli.proofs.options.type_changes.names_in.Goals as goal

pub returns : goal.returns
returns c =
    let parts = YieldsList-from_str_split 44 c.args.text.now (lit< tt) (cc) (cc) (cc) in
    let all = YieldsList-end parts c.loop-name.yielded _ c.loop-name.yielded_by _ _ c.in-None.is c.next.ensures.steps in
    c.loop-name.invariant ∙ all.0
