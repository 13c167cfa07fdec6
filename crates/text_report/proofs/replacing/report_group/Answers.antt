use Rattle.text_report.proofs.NewLineLemmas.{group_reported}
use Rattle.text_report.proofs.replacing.report_group.Goals as goal

pub returns-in-Ok-report_new-clause-goes_on : goal.returns-in-Ok-report_new-clause-goes_on
returns-in-Ok-report_new-clause-goes_on c order =
    group_reported c.args.task c.args.group c.in-Ok.lines c.in-Ok.ensures c.args.telling.now c.report_new.new.telling c.args.out.now.items
    c.report_new.new.out.items (c.in-Ok-report_new.ensures.goes_on (c.in-Ok.ensures.ordered order))
