use Rattle.nfa_core.proofs.JoinedWays.{ends_by_ways}
use Rattle.nfa_core.proofs.laws.way_laws.ends_come_by_the_ways.Goals as goal

pub returns : goal.returns
returns c = ends_by_ways
