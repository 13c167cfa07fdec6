use Rattle.nfa_core.proofs.StepLemmas.{closes_anew}
use Rattle.nfa_core.proofs.StepLemmas.{stays_closed}
use Rattle.nfa_core.proofs.PairLemmas.{names_equal}
use Rattle.std.specs.Bool.{nat_eq}
use Rattle.nfa_core.proofs.laws.walk_laws.lists_close_anew.Goals as goal

pub returns : goal.returns
returns c = record {
  more = λ known full grows entries ids after v w. closes_anew nat_eq names_equal known full grows entries ids after v w;
  same = λ known full entries ids alike v. stays_closed nat_eq names_equal known full v alike;
}
