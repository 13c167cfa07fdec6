use Rattle.hirscan.proofs.SomeReadsLemmas.{reads_or_faulty}
use Rattle.hirscan.proofs.reading_laws.texts_read_or_have_a_fault.Goals as goal

pub returns : goal.returns
returns c = reads_or_faulty
