use Rattle.std.proofs.Common.{◌++◌, ◌-◌, ◌∙◌, ℕ, List, ap, ap₂, arith, false, map, subst, sym}
use Rattle.std.specs.List.{filter}
use Rattle.search_types.specs.declared.span.Span.{Span}
use Rattle.line_search.specs.LineMatchers.{span_pair}
use Rattle.text_report.specs.LineSpans.{whole_end}
use Rattle.text_report.specs.Touching.{StartInOrder, counts_at, part_at}
use Rattle.text_report.proofs.TouchingLemmas.{ordered_from}
use Rattle.text_report.proofs.event_loop.parts_of.Goals as goal

pub returns : goal.returns
returns c order past =
    let start : ℕ = c.args.group.first.start in
    let end : ℕ = c.args.group.last.end in
    let found : List Span = c.args.found.now in
    let rest : List Span = c.from_index-rest.result.now in
    let left : StartInOrder (map span_pair rest) =
    subst (λ (l : List Span). StartInOrder (map span_pair l)) (sym c.from_index-rest.ensures) (ordered_from c.args.first found order) in
    c.in_ok-push_parts.ensures left
    ∙ ap (λ (l : List Span). map span_pair l
    ++ map (part_at start end (c.whole_end.result - start)) (filter (counts_at false start end) (map span_pair rest))) c.new-parts.ensures.items
    ∙ ap₂ (λ n (l : List Span). map (part_at start end (n - start)) (filter (counts_at false start end) (map span_pair l))) c.whole_end.ensures
    c.from_index-rest.ensures
    ∙ sym (ap (map (part_at start end (whole_end c.args.group.last - start))) (past false start end (omega arith)))
