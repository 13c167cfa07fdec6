use Rattle.std.proofs.Common.{◌≡◌, ◌+◌, ◌-◌, ◌∙◌, List, ap, arith, drop, length, length-drop, map, sym, take}
use Rattle.std.proofs.lemmas.List.{take_rest}
use Rattle.search_types.specs.declared.span.Span.{Span}
use Rattle.line_search.specs.LineMatchers.{span_pair}
use Rattle.text_report.specs.ReplacedText.{begun_before}
use Rattle.text_report.proofs.ReplacedLemmas.{begun_all, begun_found}
use Rattle.text_report.proofs.replaced_offsets.begun_before.Goals as goal

pub returns-in-Some-clause-counted : goal.returns-in-Some-clause-counted
returns-in-Some-clause-counted c =
    let found : List Span = c.args.found.now in
    ap (λ n. c.args.from + n)
    (begun_found c.args.at (take (length found - c.args.from) (drop c.args.from found)) c.in-Some.n (sym c.first_from.ensures ∙ c.in-Some.is)
    ∙ ap (λ (l : List Span). begun_before (map span_pair l) c.args.at) (take_rest found c.args.from))

pub returns-in-None-clause-counted : goal.returns-in-None-clause-counted
returns-in-None-clause-counted c =
    let found : List Span = c.args.found.now in
    let rest : List Span = take (length found - c.args.from) (drop c.args.from found) in
    let whole : length rest ≡ begun_before (map span_pair rest) c.args.at = begun_all c.args.at rest (sym c.first_from.ensures ∙ c.in-None.is) in
    let same : begun_before (map span_pair rest) c.args.at ≡ begun_before (map span_pair (drop c.args.from found)) c.args.at =
    ap (λ (l : List Span). begun_before (map span_pair l) c.args.at) (take_rest found c.args.from) in
    let size : length rest ≡ length found - c.args.from = ap length (take_rest found c.args.from) ∙ length-drop c.args.from found in
    omega (arith, whole, same, size, c.requires)
