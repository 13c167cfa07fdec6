use Rattle.hirhead.proofs.TellLemmas.{chars_fit}
use Rattle.hirhead.proofs.lines.report_chars.Goals as goal

pub returns-clause-fits : goal.returns-clause-fits
returns-clause-fits c = chars_fit c.args.ranges.now c.requires c.in_ok-push_scalar_items.ensures.scalars
