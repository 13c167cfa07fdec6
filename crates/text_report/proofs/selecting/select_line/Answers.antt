use Rattle.std.proofs.Common.{◌∷◌, ◌∙◌, ℕ, List, ap, drop, sym}
use Rattle.line_search.specs.Lines.{SplitLine}
use Rattle.line_search.specs.Searchers.{found_by}
use Rattle.text_report.specs.LineSpans.{content_of, split_at}
use Rattle.text_report.proofs.EventLemmas.{flags_push}
use Rattle.text_report.proofs.selecting.select_line.Goals as goal

pub returns-in-Ok-push-clause-goes_on : goal.returns-in-Ok-push-clause-goes_on
returns-in-Ok-push-clause-goes_on c by =
    let text : List ℕ = c.args.text.now in
    let t : ℕ = c.args.what.now.terminator in
    let line : SplitLine = content_of text c.in-Some.line in
    flags_push c.args.what.now (found_by by) c.args.count c.in-Ok-count_more.more c.in-Ok.is_selected line
    (split_at t (drop c.whole_end.result text)) (split_at t (drop c.args.at text)) c.args.flags.now.items c.push.new.self.items
    (c.in-Some.ensures.some.split ∙ ap (λ n. line ∷ split_at t (drop n text)) (sym c.whole_end.ensures)) c.in-Ok-push.ensures.items
    (c.in-Ok.ensures.reported by) c.in-Ok-count_more.ensures
