use Rattle.lazy_dfa.proofs.OverlappingWalks.WalkEndLemmas.{rest_by_place}
use Rattle.lazy_dfa.proofs.laws.walk_laws.walks_for_all_tell_the_ends_by_place.Goals as goal

pub returns : goal.returns
returns c = λ r q name wants begun none. rest_by_place r q name begun wants none
