use Rattle.std.proofs.Common.{ap, ◌∙◌}
use Rattle.line_search.specs.Lines.{searched}
use Rattle.grep_core.proofs.looking.look_at.Goals as goal

pub returns-in-Ok-clause-shown : goal.returns-in-Ok-clause-shown
returns-in-Ok-clause-shown c =
    c.in-Ok.ensures.shown c.args.is_ended
    (c.searched-line.ensures ∙ ap (λ crlf. searched crlf (record { bytes = c.args.bytes.now; is_ended = c.args.is_ended })) c.crlf.ensures)
