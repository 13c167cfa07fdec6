use Rattle.hirhead.proofs.PointedLemmas.{last_of_match}
use Rattle.hirhead.proofs.pointing.last_line.Goals as goal

pub returns-in-Some : goal.returns-in-Some
returns-in-Some c = last_of_match c.args.text.now c.in-Some.field-0-0.now c.in-Some.line.now c.in-Some.ensures.cases
