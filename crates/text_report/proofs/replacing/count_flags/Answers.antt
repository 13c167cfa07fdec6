use Rattle.grep_core.specs.Selecting.{count_selected}
use Rattle.text_report.proofs.NewReportLemmas.{flag_counted}
use Rattle.text_report.proofs.replacing.count_flags.Goals as goal

pub loop-flag-preserved : goal.loop-flag-preserved
loop-flag-preserved c =
    flag_counted c.args.flags.now c.loop-flag.flag-index _ c.loop-flag-test.true c.loop-flag.count c.in-Ok.more (count_selected c.args.flags.now)
    c.in-Ok.ensures c.loop-flag.invariant
