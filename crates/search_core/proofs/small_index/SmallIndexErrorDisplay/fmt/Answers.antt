use Rattle.search_core.proofs.small_index.SmallIndexErrorDisplay.fmt.Goals as goal

pub returns-clause-writes : goal.returns-clause-writes
returns-clause-writes g c = rw (c.self.view_is, c.as_u32.ensures.value) at c.write.ensures.writes
