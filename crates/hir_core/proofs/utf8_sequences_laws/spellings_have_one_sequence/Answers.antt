use Rattle.hir_core.proofs.SequenceLemmas.{spelling_has_place, one_place}
use Rattle.hir_core.proofs.utf8_sequences_laws.spellings_have_one_sequence.Goals as goal

pub returns-clause-some : goal.returns-clause-some
returns-clause-some c = spelling_has_place

pub returns-clause-no_other : goal.returns-clause-no_other
returns-clause-no_other c = one_place
