use Rattle.streams.proofs.LineLemmas.{fed_lines_joined, line_ends_joined}
use Rattle.streams.proofs.laws.cuts_of_lines_make_no_difference.Goals as goal

pub returns-clause-fed : goal.returns-clause-fed
returns-clause-fed c = fed_lines_joined

pub returns-clause-ends : goal.returns-clause-ends
returns-clause-ends c = line_ends_joined
