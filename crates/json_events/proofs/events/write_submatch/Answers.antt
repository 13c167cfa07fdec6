use Rattle.std.proofs.Common.{append_assoc}
use Rattle.json_events.proofs.events.write_submatch.Goals as goal

pub returns-clause-tokens : goal.returns-clause-tokens
returns-clause-tokens c = simp (c.in_ok-end_object.ensures.ok, c.in_ok-write_number-2.ensures.tokens, c.in_ok-write_number.ensures.tokens, c.in_ok-write_data.ensures.tokens, c.in_ok-key.ensures.ok, c.in_ok-begin_object.ensures.ok, c.part.ensures, append_assoc)
