use Rattle.std.proofs.Common.{◌∙◌, ap, sym}
use Rattle.line_search.specs.Searchers.{found_by}
use Rattle.text_report.specs.EventCourse.{selects}
use Rattle.text_report.proofs.LineMatchLemmas.{not_selected}
use Rattle.text_report.proofs.selecting.is_line_selected.Goals as goal

pub returns-then-not-may_select-clause-reported : goal.returns-then-not-may_select-clause-reported
returns-then-not-may_select-clause-reported c by =
    not_selected c.args.what.now c.args.count ((found_by by).has_match (record { bytes = c.args.bytes.now; is_ended = c.args.is_ended }))
    (sym c.may_select.ensures ∙ c.if-not-may_select.true)

pub returns-in-Ok-clause-reported : goal.returns-in-Ok-clause-reported
returns-in-Ok-clause-reported c by =
    c.is_selected.ensures ∙ ap (selects c.args.what.now c.args.count) (c.in-Ok.ensures.reported by)
