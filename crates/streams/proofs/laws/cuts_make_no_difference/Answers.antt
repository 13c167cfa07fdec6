use Rattle.streams.proofs.StreamLemmas.{ends_joined, fed_joined}
use Rattle.streams.proofs.laws.cuts_make_no_difference.Goals as goal

pub returns-clause-fed : goal.returns-clause-fed
returns-clause-fed c = fed_joined

pub returns-clause-ends : goal.returns-clause-ends
returns-clause-ends c = ends_joined
