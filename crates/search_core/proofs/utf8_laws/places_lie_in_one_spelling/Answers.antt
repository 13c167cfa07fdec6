use Rattle.search_core.proofs.SplitLemmas.{same_split}
use Rattle.search_core.proofs.utf8_laws.places_lie_in_one_spelling.Goals as goal

pub returns : goal.returns
returns c = same_split
