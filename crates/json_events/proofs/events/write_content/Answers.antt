use Rattle.std.proofs.Common.{append_assoc}
use Rattle.json_events.proofs.events.write_content.Goals as goal

pub returns-clause-tokens : goal.returns-clause-tokens
returns-clause-tokens c = simp (c.in_ok-write_number.ensures.tokens, c.in_ok-write_line_number.ensures.tokens, c.in_ok-write_data.ensures.tokens, c.in_ok-key.ensures.ok, append_assoc)
