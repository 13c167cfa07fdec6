use Rattle.std.proofs.Common.{arith}
use Rattle.text_report.proofs.EventReportLemmas.{context_item}
use Rattle.text_report.proofs.events.push_context.Goals as goal

pub returns-in-Ok-push_event-clause-reported : goal.returns-in-Ok-push_event-clause-reported
returns-in-Ok-push_event-clause-reported c it is =
    context_item c.args.what.now c.args.name.now it c.args.item c.args.counts c.args.out.now.items c.push_event.new.out.items c.in-Ok.end is
    c.in-Ok-push_event.ensures c.in-Ok.ensures

pub returns-in-Ok-push_event-clause-kept : goal.returns-in-Ok-push_event-clause-kept
returns-in-Ok-push_event-clause-kept c some none = absurd (omega (arith, c.in-Ok.ensures, some, none))
