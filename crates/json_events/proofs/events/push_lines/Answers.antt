use Rattle.std.proofs.Common.{◌≡◌, ◌++◌, ◌∷◌, [], ◌∙◌, ap, append_assoc, map}
use Rattle.json.specs.Token.{end_object}
use Rattle.json_events.specs.Events.{as_line, lines_event, span_ends}
use Rattle.json_events.proofs.events.push_lines.Goals as goal

pub returns : goal.returns
returns c =
    let tokens : c.write_submatches.new.writer.tokens ++ end_object ∷ end_object ∷ [] ≡ lines_event c.args.name.now c.args.lines.kind c.args.lines.number c.args.lines.place c.args.lines.bytes.now (map span_ends c.args.lines.found.now) = simp (c.in_ok-write_submatches.ensures.tokens, c.in_ok-write_content.ensures.tokens, c.in_ok-write_path.ensures.tokens, c.in_ok-begin.ensures.tokens, c.new-writer.ensures.tokens, c.kind_name.ensures, append_assoc) in
    c.in_ok-finish_event.ensures ∙ ap (λ ts. c.args.out.now.items ++ as_line ts) tokens
