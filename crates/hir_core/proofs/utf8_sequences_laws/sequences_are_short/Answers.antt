use Rattle.hir_core.proofs.SequenceLemmas.{sequence_short}
use Rattle.hir_core.proofs.utf8_sequences_laws.sequences_are_short.Goals as goal

pub returns : goal.returns
returns c = sequence_short
