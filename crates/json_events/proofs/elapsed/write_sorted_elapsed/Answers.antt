use Rattle.std.proofs.Common.{append_assoc}
use Rattle.json_events.proofs.elapsed.write_sorted_elapsed.Goals as goal

pub returns-clause-tokens : goal.returns-clause-tokens
returns-clause-tokens c = simp (c.in_ok-end_object.ensures.ok, c.in_ok-write_number-2.ensures.tokens, c.in_ok-write_number.ensures.tokens, c.in_ok-write_text.ensures.tokens, c.in_ok-begin_member.ensures.tokens, c.as_str.ensures.value, c.in_ok-text.ensures, append_assoc)
