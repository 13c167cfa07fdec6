use Rattle.std.proofs.Common.{◌≡◌, ◌++◌, ◌∙◌, ap, append_assoc}
use Rattle.json_events.specs.Events.{as_line, summary_event}
use Rattle.json_events.proofs.events.push_summary.Goals as goal

pub returns : goal.returns
returns c =
    let tokens : c.end_object.new.self.tokens ≡ summary_event c.args.stats c.args.total =
    simp (
      c.in_ok-end_object.ensures.ok,
      c.in_ok-write_text.ensures.tokens,
      c.in_ok-write_summary_data.ensures.tokens,
      c.in_ok-key.ensures.ok,
      c.in_ok-begin_object.ensures.ok,
      c.new-writer.ensures.tokens,
      append_assoc,
    ) in
    c.in_ok-finish.ensures ∙ ap (λ ts. c.args.out.now.items ++ as_line ts) tokens
