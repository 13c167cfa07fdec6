use Rattle.hirscan.proofs.ReaderLemmas.{numbers_read, bounds_read}
use Rattle.hirscan.proofs.word_laws.numbers_are_read.Goals as goal

pub returns-clause-numbers : goal.returns-clause-numbers
returns-clause-numbers c = numbers_read

pub returns-clause-bounds : goal.returns-clause-bounds
returns-clause-bounds c = bounds_read
