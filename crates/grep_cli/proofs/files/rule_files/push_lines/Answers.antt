use Rattle.std.proofs.Common.{◌∙◌, ◌++◌, map, ap, lit<}
use Rattle.std.specs.List.{flat_map}
use Rattle.std.specs.Str.{chars}
use Rattle.std.proofs.lemmas.Iterator.Consumers.{YieldsList-end}
use Rattle.std.proofs.lemmas.Iterator.Splits.{YieldsList-from_str_split}
use Rattle.globs.specs.Rules.{excluded, rule_of}
use Rattle.grep_cli.proofs.files.rule_files.push_lines.Goals as goal

pub returns : goal.returns
returns c =
    let lines = YieldsList-from_str_split 10 c.args.text.now (lit< tt) (cc) (cc) (cc) in
    let all = YieldsList-end lines c.loop-line.yielded _ c.loop-line.yielded_by _ _ c.in-None.is c.next.ensures.steps in
    c.loop-line.invariant ∙ ap (λ ls. map rule_of c.args.rules.now.items ++ flat_map (λ line. excluded (chars line)) ls) all.0
