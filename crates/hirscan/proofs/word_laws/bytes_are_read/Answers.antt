use Rattle.hirscan.proofs.ReaderLemmas.{bytes_read, byte_read}
use Rattle.hirscan.proofs.word_laws.bytes_are_read.Goals as goal

pub returns-clause-bytes : goal.returns-clause-bytes
returns-clause-bytes c = bytes_read

pub returns-clause-byte : goal.returns-clause-byte
returns-clause-byte c = byte_read
