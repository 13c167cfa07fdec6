use Rattle.hirhead.proofs.HeadLemmas.{head_reads}
use Rattle.hirhead.proofs.laws.queries_are_read.Goals as goal

pub returns : goal.returns
returns c = head_reads c.bytes_are_read.ensures.bytes
