use Rattle.std.proofs.Common.{◌∙◌, lit<}
use Rattle.std.proofs.lemmas.Iterator.Consumers.{YieldsList-end}
use Rattle.std.proofs.lemmas.Iterator.Splits.{YieldsList-from_str_split}
use Rattle.grep_cli.proofs.options.type_changes.colon_parts.Goals as goal

pub returns : goal.returns
returns c =
    let parts = YieldsList-from_str_split 58 c.args.text.now (lit< tt) (cc) (cc) (cc) in
    let all = YieldsList-end parts c.loop-part.yielded _ c.loop-part.yielded_by _ _ c.in-None.is c.next.ensures.steps in
    c.loop-part.invariant ∙ all.0
