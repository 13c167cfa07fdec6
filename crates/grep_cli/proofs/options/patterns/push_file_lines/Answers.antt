use Rattle.std.proofs.Common.{◌∙◌, ◌++◌, map, string_bytes, ap}
use Rattle.std.proofs.lemmas.Iterator.Consumers.{YieldsList-end}
use Rattle.std.proofs.lemmas.Iterator.Splits.{YieldsList-from_lines}
use Rattle.grep_cli.proofs.options.patterns.push_file_lines.Goals as goal

pub returns : goal.returns
returns c =
    let whole = YieldsList-from_lines c.args.text.now (cc) in
    let all = YieldsList-end whole c.loop-line.yielded _ c.loop-line.yielded_by _ _ c.in-None.is c.next.ensures.steps in
    c.loop-line.invariant ∙ ap (λ ls. map string_bytes c.args.patterns.now.items ++ ls) all.0
