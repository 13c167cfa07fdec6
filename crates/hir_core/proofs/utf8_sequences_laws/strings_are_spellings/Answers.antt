use Rattle.hir_core.proofs.SequenceLemmas.{string_is_spelling}
use Rattle.hir_core.proofs.utf8_sequences_laws.strings_are_spellings.Goals as goal

pub returns : goal.returns
returns c = string_is_spelling
