-- The two automata of one list of trees: one that reads forward, and one that reads in reverse.
use Rattle.std.specs.Prelude.{◌≡◌, true, false, List}
use Rattle.hir_core.specs.Tree.{Tree}
use Rattle.nfa_core.specs.NfaValue.{Nfa}
use Rattle.thompson_nfa.specs.Configs.{Options, reverse_of}
use Rattle.thompson_nfa.specs.Compilations.{IsCompiled}

-- n reads the trees forward, m in reverse, whatever else their options are
pub record AreBothWays (o r : Options) (xs : List Tree) (n m : Nfa) : Type 0 where
  pub is_forward : IsCompiled o xs n
  pub is_reverse : IsCompiled r xs m
  pub reads_forward : reverse_of o ≡ false
  pub reads_reverse : reverse_of r ≡ true
