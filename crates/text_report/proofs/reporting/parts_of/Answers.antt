use Rattle.std.proofs.Common.{◌≡◌, ◌++◌, ◌∙◌, Bool, List, ap, length, map, subst, sym}
use Rattle.std.specs.List.{filter}
use Rattle.search_types.specs.declared.span.Span.{Span}
use Rattle.line_search.specs.LineMatchers.{span_pair}
use Rattle.text_report.specs.LineSpans.{line_of}
use Rattle.text_report.specs.Touching.{StartInOrder, counts_at, part_at, parts_in}
use Rattle.text_report.proofs.SeenLemmas.{parts_there}
use Rattle.text_report.proofs.TouchingLemmas.{ordered_from}
use Rattle.text_report.proofs.reporting.parts_of.Goals as goal

pub returns : goal.returns
returns c order before =
    let line = c.args.line in
    let found : List Span = c.args.task.found.now in
    let rest : List Span = c.from_index-found.result.now in
    let begun : Bool = c.counts_begun-begun.result in
    let size = length c.searched-size.result.now in
    let left : StartInOrder (map span_pair rest) =
    subst (λ (l : List Span). StartInOrder (map span_pair l)) (sym c.from_index-found.ensures) (ordered_from c.args.first found order) in
    subst (λ (b : Bool). map span_pair c.push_parts.new.parts.items
    ≡ parts_in b c.args.task.crlf (map span_pair found) (line_of c.args.task.text.now line)) c.counts_begun-begun.ensures
    (parts_there c.args.task.text.now line c.requires.ordered c.requires.inside found c.args.first before begun c.args.task.crlf rest size
    (map span_pair c.push_parts.new.parts.items) c.from_index-found.ensures (ap length c.searched-size.ensures)
    (c.in_ok-push_parts.ensures left
    ∙ ap (λ (l : List Span). map span_pair l
    ++ map (part_at line.start line.end size) (filter (counts_at begun line.start line.end) (map span_pair rest))) c.new-parts.ensures.items))
