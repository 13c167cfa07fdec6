use Rattle.std.proofs.Common.{append_assoc}
use Rattle.json_events.proofs.stats.write_sorted_stats.Goals as goal

pub returns-clause-tokens : goal.returns-clause-tokens
returns-clause-tokens c = simp (c.in_ok-end_object.ensures.ok, c.in_ok-write_sorted_counts.ensures.tokens, c.in_ok-write_sorted_elapsed.ensures.tokens, c.in_ok-write_sorted_bytes.ensures.tokens, c.in_ok-begin_member.ensures.tokens, append_assoc)
