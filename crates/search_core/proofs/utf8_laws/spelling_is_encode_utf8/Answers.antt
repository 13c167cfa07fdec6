use Rattle.search_core.proofs.Utf8Lemmas.{spelling_encodes, encoded_spells}
use Rattle.search_core.proofs.utf8_laws.spelling_is_encode_utf8.Goals as goal

pub returns-clause-scalar : goal.returns-clause-scalar
returns-clause-scalar c = spelling_encodes

pub returns-clause-spelled : goal.returns-clause-spelled
returns-clause-spelled c = encoded_spells
