use Rattle.std.proofs.Common.{◌∙◌, ◌++◌, map, string_bytes, ap, lit<}
use Rattle.std.proofs.lemmas.Iterator.Consumers.{YieldsList-end}
use Rattle.std.proofs.lemmas.Iterator.Splits.{YieldsList-from_str_split}
use Rattle.grep_cli.proofs.options.patterns.push_lines.Goals as goal

pub returns : goal.returns
returns c =
    let lines = YieldsList-from_str_split 10 c.args.text.now (lit< tt) (cc) (cc) (cc) in
    let all = YieldsList-end lines c.loop-line.yielded _ c.loop-line.yielded_by _ _ c.in-None.is c.next.ensures.steps in
    c.loop-line.invariant ∙ ap (λ ls. map string_bytes c.args.patterns.now.items ++ ls) all.0
