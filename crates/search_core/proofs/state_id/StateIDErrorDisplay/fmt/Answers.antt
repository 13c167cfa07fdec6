use Rattle.search_core.proofs.state_id.StateIDErrorDisplay.fmt.Goals as goal

pub returns-clause-writes : goal.returns-clause-writes
returns-clause-writes g c = rw (c.attempted.ensures.value, c.as_u32.ensures.value) at c.write.ensures.writes
