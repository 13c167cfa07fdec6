use Rattle.std.proofs.Common.{◌∙◌, ap}
use Rattle.grep_core.specs.Report.{counted_as}
use Rattle.grep_core.specs.Selecting.{count_selected}
use Rattle.text_report.proofs.replacing.report_found.Goals as goal

pub returns-in-Ok-write_new-clause-reported : goal.returns-in-Ok-write_new-clause-reported
returns-in-Ok-write_new-clause-reported g c order news =
    c.in-Ok-write_new.ensures.reported news (c.deref-2.ensures.value ∙ c.in-Ok.ensures order)

pub returns-in-Ok-write_new-clause-selected : goal.returns-in-Ok-write_new-clause-selected
returns-in-Ok-write_new-clause-selected g c order =
    c.counted_as.ensures
    ∙ ap (counted_as c.args.task.what.now.print)
    (c.in-Ok-count_flags.ensures ∙ ap count_selected (c.deref.ensures.value ∙ c.in-Ok.ensures order))

pub returns-clause-fault : goal.returns-clause-fault
returns-clause-fault g c order news = c.in-Err-write_new.ensures.fault news (c.deref-2.ensures.value ∙ c.in-Ok.ensures order)
