use Rattle.std.proofs.Common.{◌+◌, ◌∷◌, ◌∙◌, ℕ, List, ap, ap₂, map, sym}
use Rattle.line_search.specs.LineMatchers.{span_pair}
use Rattle.line_search.specs.Lines.{TextLine}
use Rattle.text_report.specs.LineSpans.{line_of, lines_from}
use Rattle.text_report.specs.declared.text_lines.TextPosition.{TextPosition}
use Rattle.text_report.proofs.TouchedLemmas.{touched_push}
use Rattle.text_report.proofs.touched.select_next.Goals as goal

pub returns-in-Ok-push-clause-goes_on : goal.returns-in-Ok-push-clause-goes_on
returns-in-Ok-push-clause-goes_on c order =
    let text : List ℕ = c.args.text.now in
    let t : ℕ = c.args.what.now.terminator in
    let seen = c.in-Some.seen in
    let line : TextLine = line_of text seen.line in
    let next = c.in-Ok-position_after.ensures in
    touched_push c.args.what.now (map span_pair c.args.found.now) c.args.count c.in-Ok.more c.is_selected-is_selected.result seen.has line
    (lines_from t text c.in-Ok-position_after.next.number c.in-Ok-position_after.next.place) (lines_from t text c.args.at.number c.args.at.place)
    c.args.flags.now.items c.push.new.self.items
    (c.in-Some.ensures.some.next
    ∙ ap₂ (λ n k. line ∷ lines_from t text n k)
    (ap (λ n. n + 1) (sym c.in-Some.ensures.some.numbered_so) ∙ sym (ap (λ (p : TextPosition). p.number) next))
    (sym (ap (λ (p : TextPosition). p.place) next)))
    c.in-Ok-push.ensures.items c.is_selected-is_selected.ensures (c.in-Some.ensures.has order c.requires.past) c.in-Ok.ensures
