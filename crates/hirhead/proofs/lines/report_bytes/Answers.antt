use Rattle.hirhead.proofs.TellLemmas.{bytes_fit}
use Rattle.hirhead.proofs.lines.report_bytes.Goals as goal

pub returns-clause-fits : goal.returns-clause-fits
returns-clause-fits c = bytes_fit c.args.ranges.now c.requires c.in_ok-push_byte_items.ensures.small
