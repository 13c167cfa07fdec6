use Rattle.std.proofs.Common.{◌+◌, ◌∙◌, ap, arith, sym}
use Rattle.std.proofs.lemmas.List.{length-map}
use Rattle.line_search.specs.LineMatchers.{span_pair}
use Rattle.text_report.proofs.EventReportLemmas.{selected_item}
use Rattle.text_report.proofs.events.push_selected.Goals as goal

pub returns-in-Ok-push_event-clause-reported : goal.returns-in-Ok-push_event-clause-reported
returns-in-Ok-push_event-clause-reported c it is =
    selected_item c.args.what.now c.args.name.now it c.args.item c.args.counts c.args.out.now.items c.push_event.new.out.items c.in-Ok.end
    c.in-Ok-sum.lines c.in-Ok-sum-2.matches is c.in-Ok-push_event.ensures c.in-Ok.ensures c.in-Ok-sum.ensures
    (c.in-Ok-sum-2.ensures ∙ ap (λ n. c.args.counts.matches + n) (sym (length-map c.args.item.found.now span_pair)))

pub returns-in-Ok-push_event-clause-kept : goal.returns-in-Ok-push_event-clause-kept
returns-in-Ok-push_event-clause-kept c some none = absurd (omega (arith, c.in-Ok.ensures, some, none))
