use Rattle.std.proofs.Common.{map}
use Rattle.grep_options.specs.FileOptions.{given_of}
use Rattle.grep_cli.proofs.SelectingLemmas.{added_all, added_more, added_none, names_none_on, values_cut}
use Rattle.grep_cli.proofs.files.selecting_files.push_values.Goals as goal

pub loop-value-init : goal.loop-value-init
loop-value-init c = record { rules = added_none _ _; sure = λ e. e }

pub loop-value-preserved : goal.loop-value-preserved
loop-value-preserved c =
    let more = c.in_ok-push_value.ensures.rules c.if-not-branch.false in
    let cut = values_cut given_of c.args.values.now c.loop-value.value-index _ c.loop-value-test.true in
    record {
      rules = added_more _ _ _ _ _ _ _ more.0 cut more.1 c.loop-value.invariant.rules;
      sure = names_none_on _ (map given_of c.args.values.now) _ _ cut c.loop-value.invariant.sure;
    }

pub returns-clause-rules : goal.returns-clause-rules
returns-clause-rules c = λ _. added_all _ _ _ _ c.loop-value.invariant.rules
