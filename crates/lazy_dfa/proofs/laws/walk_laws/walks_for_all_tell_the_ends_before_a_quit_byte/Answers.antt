use Rattle.lazy_dfa.proofs.OverlappingWalks.WalkEndLemmas.{rest_before_quit}
use Rattle.lazy_dfa.proofs.laws.walk_laws.walks_for_all_tell_the_ends_before_a_quit_byte.Goals as goal

pub returns : goal.returns
returns c = λ r q name b x wants begun there. rest_before_quit r q name begun wants b x there
