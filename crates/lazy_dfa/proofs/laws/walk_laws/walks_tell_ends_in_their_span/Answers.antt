use Rattle.lazy_dfa.proofs.OverlappingWalks.RestLemmas.{rest_in_span}
use Rattle.lazy_dfa.proofs.laws.walk_laws.walks_tell_ends_in_their_span.Goals as goal

pub returns : goal.returns
returns c = λ r q x l there. rest_in_span r q x there
