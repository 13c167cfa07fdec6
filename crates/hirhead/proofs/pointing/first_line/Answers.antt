use Rattle.hirhead.proofs.PointedLemmas.{first_of_match}
use Rattle.hirhead.proofs.pointing.first_line.Goals as goal

pub returns-in-Some : goal.returns-in-Some
returns-in-Some c = first_of_match c.args.text.now c.in-Some.line.now c.in-Some.field-0-1.now c.in-Some.ensures.cases
