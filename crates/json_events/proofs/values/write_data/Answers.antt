use Rattle.std.proofs.Common.{append_assoc}
use Rattle.json_events.proofs.values.write_data.Goals as goal

pub returns-clause-tokens : goal.returns-clause-tokens
returns-clause-tokens c = simp (c.in_ok-end_object.ensures.ok, c.in_ok-write_member.ensures.tokens, c.in_ok-begin_object.ensures.ok, append_assoc)
