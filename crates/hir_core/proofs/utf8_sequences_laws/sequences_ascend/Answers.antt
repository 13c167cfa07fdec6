use Rattle.hir_core.proofs.SequenceLemmas.{strings_rise}
use Rattle.hir_core.proofs.utf8_sequences_laws.sequences_ascend.Goals as goal

pub returns : goal.returns
returns c = strings_rise
