use Rattle.std.proofs.Common.{◌≡◌, ◌++◌, ◌∷◌, [], ◌∙◌, ap, append_assoc}
use Rattle.json.specs.Token.{end_object}
use Rattle.json_events.specs.Events.{as_line, begin_event}
use Rattle.json_events.proofs.events.push_begin.Goals as goal

pub returns : goal.returns
returns c =
    let tokens : c.write_path.new.writer.tokens ++ end_object ∷ end_object ∷ [] ≡ begin_event c.args.name.now = simp (c.in_ok-write_path.ensures.tokens, c.in_ok-begin.ensures.tokens, c.new-writer.ensures.tokens, append_assoc) in
    c.in_ok-finish_event.ensures ∙ ap (λ ts. c.args.out.now.items ++ as_line ts) tokens
