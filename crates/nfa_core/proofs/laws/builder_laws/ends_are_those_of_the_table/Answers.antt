use Rattle.nfa_core.proofs.RenamingEnds.{ends_listed}
use Rattle.nfa_core.proofs.RenamingEnds.{ends_found}
use Rattle.nfa_core.proofs.RenamingEnds.{found_end}
use Rattle.nfa_core.proofs.RenamingEnds.{chains_once}
use Rattle.nfa_core.proofs.laws.builder_laws.ends_are_those_of_the_table.Goals as goal

pub returns : goal.returns
returns c = record {
  listed = λ b x y t q i l can inside place walk. ends_listed b x y can t q i inside place l walk;
  found = λ b x y t q i e can inside place h. ends_found b x y can t q i inside place e h;
  all = λ b x y t q i e r can inside place chain is. found_end b x y can t q i inside place e r chain is;
  once = λ b x y t q i l r can inside place walk chain. chains_once b x y can t q i inside place l walk r chain;
}
