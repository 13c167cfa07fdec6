use Rattle.nfa_core.proofs.KeptLemmas.{kept_close_anew}
use Rattle.nfa_core.proofs.PairLemmas.{names_equal}
use Rattle.std.specs.Bool.{nat_eq}
use Rattle.nfa_core.proofs.laws.walk_laws.kept_lists_close_anew.Goals as goal

pub returns : goal.returns
returns c = λ keep to rank known full self kept grows by_known by_full entries ids after again v w u.
    kept_close_anew nat_eq names_equal keep to rank self kept known full grows by_known by_full entries ids after again v w u
