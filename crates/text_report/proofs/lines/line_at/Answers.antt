use Rattle.std.proofs.Common.{◌-◌, ◌∙◌, ℕ, List, length, take, drop, sym}
use Rattle.std.proofs.lemmas.List.{take_rest}
use Rattle.text_report.proofs.LineLemmas.{ended_line, open_line, some_bytes}
use Rattle.text_report.proofs.lines.line_at.Goals as goal

pub returns-in-Some-clause-some : goal.returns-in-Some-clause-some
returns-in-Some-clause-some c =
    let text : List ℕ = c.args.text.now in
    let start : ℕ = c.args.start in
    ended_line c.args.terminator text (take (length text - start) (drop start text)) c.args.number start c.in-Some.len c.requires
    (take_rest text start) (sym c.byte_at.ensures ∙ c.in-Some.is)

pub returns-in-None-clause-some : goal.returns-in-None-clause-some
returns-in-None-clause-some c =
    let text : List ℕ = c.args.text.now in
    let start : ℕ = c.args.start in
    open_line c.args.terminator text (take (length text - start) (drop start text)) c.args.number start c.requires
    (take_rest text start) (sym c.byte_at.ensures ∙ c.in-None.is)
    (some_bytes (length (take (length text - start) (drop start text))) (sym c.if-is_empty.false ∙ c.is_empty.ensures))
