use Rattle.hirscan.proofs.ReaderLemmas.{looks_read}
use Rattle.hirscan.proofs.word_laws.looks_are_read.Goals as goal

pub returns : goal.returns
returns c = looks_read
