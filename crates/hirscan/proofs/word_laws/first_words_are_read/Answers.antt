use Rattle.hirscan.proofs.ReaderLemmas.{line_words_read}
use Rattle.hirscan.proofs.word_laws.first_words_are_read.Goals as goal

pub returns : goal.returns
returns c = line_words_read
