use Rattle.std.proofs.Common.{◌∙◌, ap}
use Rattle.line_search.specs.Lines.{SplitLine, searched}
use Rattle.text_report.proofs.LineMatchLemmas.{match_reported}
use Rattle.text_report.proofs.selecting.has_match.Goals as goal

pub returns-in-Ok-clause-reported : goal.returns-in-Ok-clause-reported
returns-in-Ok-clause-reported c by =
    let content : SplitLine = record { bytes = c.args.bytes.now; is_ended = c.args.is_ended } in
    match_reported c.args.finder.now by c.searched-line.result.now content c.in-Ok.has
    (c.searched-line.ensures ∙ ap (λ b. searched b content) c.crlf.ensures) c.in-Ok.ensures.reported
