use Rattle.std.proofs.Common.{append_assoc}
use Rattle.json_events.proofs.stats.write_stats.Goals as goal

pub returns-clause-tokens : goal.returns-clause-tokens
returns-clause-tokens c = simp (c.in_ok-end_object.ensures.ok, c.in_ok-write_matches.ensures.tokens, c.in_ok-write_searches.ensures.tokens, c.in_ok-write_elapsed.ensures.tokens, c.in_ok-begin_member.ensures.tokens, append_assoc)
