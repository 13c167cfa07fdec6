use Rattle.lazy_dfa.proofs.OverlappingWalks.RestLemmas.{quit_is_near, refusal_kinds, quiet_goes}
use Rattle.lazy_dfa.proofs.laws.walk_laws.walks_are_refused_by_quit_bytes_and_modes_alone.Goals as goal

pub returns-clause-quits : goal.returns-clause-quits
returns-clause-quits c = λ r q b x is. quit_is_near r q b x is

pub returns-clause-alone : goal.returns-clause-alone
returns-clause-alone c = λ r q e is. refusal_kinds r q e is

pub returns-clause-none : goal.returns-clause-none
returns-clause-none c = λ r q fit none. quiet_goes r q fit none
