use Rattle.search_core.proofs.ForCallers.{utf8_of_valid}
use Rattle.look_core.proofs.CharacterMirrorLemmas.{mirror_characters}
use Rattle.look_core.proofs.laws.reversed_looks_hold_between_the_reversed_characters.Goals as goal

pub returns-clause-mirror : goal.returns-clause-mirror
returns-clause-mirror c = mirror_characters

pub returns-clause-valid : goal.returns-clause-valid
returns-clause-valid c = utf8_of_valid
