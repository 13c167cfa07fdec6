use Rattle.std.proofs.Common.{arith}
use Rattle.std.proofs.lemmas.List.{length-map}
use Rattle.grep_cli.proofs.SelectingLemmas.{ignored_as, ignored_more, ignored_none}
use Rattle.grep_cli.proofs.files.rule_files.push_ignore_files.Goals as goal

pub loop-name-init : goal.loop-name-init
loop-name-init c = ignored_none _

pub loop-name-preserved : goal.loop-name-preserved
loop-name-preserved c =
    let more = c.in_ok-push_ignore_file.ensures c.if-not-branch.false in
    ignored_more _ _ _ _ more.0 more.1 c.loop-name.invariant

pub returns-clause-rules : goal.returns-clause-rules
returns-clause-rules c = λ _. ignored_as _ _ _ _ (omega (arith, length-map c.args.names.now (λ n. n.now))) c.loop-name.invariant
