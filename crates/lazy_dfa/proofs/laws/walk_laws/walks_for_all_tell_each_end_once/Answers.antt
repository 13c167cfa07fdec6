use Rattle.std.proofs.Common.{◌∙◌}
use Rattle.lazy_dfa.proofs.OverlappingWalks.WalkEndLemmas.{rest_exactly, rest_has, rest_once, rest_ordered, rest_best}
use Rattle.lazy_dfa.proofs.laws.walk_laws.walks_for_all_tell_each_end_once.Goals as goal

pub returns-clause-exactly : goal.returns-clause-exactly
returns-clause-exactly c = λ r q name x wants begun none. (
  λ there. rest_has r q name begun wants x none there,
  λ is. rest_exactly r q name begun wants x none is.1 ∙ is.0,
)

pub returns-clause-once : goal.returns-clause-once
returns-clause-once c = λ r q name wants begun none. rest_once r q name begun wants none

pub returns-clause-ordered : goal.returns-clause-ordered
returns-clause-ordered c = λ r q name wants begun none. rest_ordered r q name begun wants none

pub returns-clause-best : goal.returns-clause-best
returns-clause-best c = λ r q name j wants begun none counted. rest_best r q name begun wants j none counted
