use Rattle.search_core.proofs.CharacterLemmas.{character_begins, begun_character, character_ends, ended_character}
use Rattle.search_core.proofs.utf8_laws.characters_at_places.Goals as goal

pub returns-clause-begins : goal.returns-clause-begins
returns-clause-begins c = character_begins

pub returns-clause-at : goal.returns-clause-at
returns-clause-at c = begun_character

pub returns-clause-ends : goal.returns-clause-ends
returns-clause-ends c = character_ends

pub returns-clause-before : goal.returns-clause-before
returns-clause-before c = ended_character
