use Rattle.std.proofs.Common.{append_assoc}
use Rattle.json_events.proofs.stats.write_sorted_bytes.Goals as goal

pub returns-clause-tokens : goal.returns-clause-tokens
returns-clause-tokens c = simp (c.in_ok-write_number-2.ensures.tokens, c.in_ok-write_number.ensures.tokens, append_assoc)
