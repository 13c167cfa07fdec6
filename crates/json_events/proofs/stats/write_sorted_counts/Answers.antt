use Rattle.std.proofs.Common.{append_assoc}
use Rattle.json_events.proofs.stats.write_sorted_counts.Goals as goal

pub returns-clause-tokens : goal.returns-clause-tokens
returns-clause-tokens c = simp (c.in_ok-write_sorted_searches.ensures.tokens, c.in_ok-write_matches.ensures.tokens, append_assoc)
