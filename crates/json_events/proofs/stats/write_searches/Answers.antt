use Rattle.std.proofs.Common.{append_assoc}
use Rattle.json_events.proofs.stats.write_searches.Goals as goal

pub returns-clause-tokens : goal.returns-clause-tokens
returns-clause-tokens c = simp (c.in_ok-write_number-4.ensures.tokens, c.in_ok-write_number-3.ensures.tokens, c.in_ok-write_number-2.ensures.tokens, c.in_ok-write_number.ensures.tokens, append_assoc)
