use Rattle.hirhead.proofs.SameLemmas.{all_matched}
use Rattle.hirhead.proofs.laws.queries_match_as_their_patterns.Goals as goal

pub returns : goal.returns
returns c = all_matched c.classes_have_their_items_bytes.ensures.members c.scalar_classes_have_their_items.ensures.members
