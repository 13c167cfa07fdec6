use Rattle.std.proofs.Common.{refl, arith}
use Rattle.search_core.specs.Classes.{alphabet_size}
use Rattle.lazy_dfa.proofs.Automata.AccountingLemmas.{power_is}
use Rattle.lazy_dfa.proofs.laws.accounting_laws.strides_are_least_powers_of_two.Goals as goal

pub returns : goal.returns
returns c = λ classes k least few. power_is k (alphabet_size classes) least 9 0 1 refl (omega arith) (omega (arith, few))
