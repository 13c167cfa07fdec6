use Rattle.std.proofs.Common.{◌∙◌, ap, map, refl}
use Rattle.line_search.specs.LineMatchers.{span_pair}
use Rattle.line_search.specs.Lines.{SplitLine, searched}
use Rattle.text_report.proofs.LineMatchLemmas.{spans_reported}
use Rattle.text_report.proofs.events.matches_of.Goals as goal

pub returns-in-Ok-clause-found : goal.returns-in-Ok-clause-found
returns-in-Ok-clause-found c by =
    let content : SplitLine = record { bytes = c.args.bytes.now; is_ended = c.args.is_ended } in
    spans_reported c.args.finder.now by c.searched-line.result.now content (map span_pair c.in-Ok.found.items)
    (c.searched-line.ensures ∙ ap (λ b. searched b content) c.crlf.ensures) (c.in-Ok.ensures.reported (by.may refl))
