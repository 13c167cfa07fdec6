use Rattle.streams.proofs.CapacityLemmas.{own_stream, same_closed, same_fed, same_lines_closed, same_lines_fed, same_of_lines, same_reported}
use Rattle.streams.proofs.laws.capacities_make_no_difference.Goals as goal

pub returns-clause-own : goal.returns-clause-own
returns-clause-own c = own_stream

pub returns-clause-fed : goal.returns-clause-fed
returns-clause-fed c = same_fed

pub returns-clause-closed : goal.returns-clause-closed
returns-clause-closed c = same_closed

pub returns-clause-lines_fed : goal.returns-clause-lines_fed
returns-clause-lines_fed c = same_lines_fed

pub returns-clause-lines_closed : goal.returns-clause-lines_closed
returns-clause-lines_closed c = same_lines_closed

pub returns-clause-reported : goal.returns-clause-reported
returns-clause-reported c = same_reported

pub returns-clause-reported_of_lines : goal.returns-clause-reported_of_lines
returns-clause-reported_of_lines c = same_of_lines
