-- What steps cost, in insertions into a set.
use Rattle.std.specs.Prelude.{ℕ, zero, suc, ◌+◌, List, length}
use Rattle.std.specs.List.{sum_by}
use Rattle.nfa_core.specs.Nfa.{Automaton}
use Rattle.nfa_core.specs.NfaValue.{free_steps}
use Rattle.determinize_core.specs.Steps.{known_steps}

-- how many transitions without a byte these states have under the looks that are known to hold
abbrev pub known_ways : Automaton → ℕ → List ℕ → ℕ
known_ways a looks qs = sum_by (λ q. length (known_steps a looks q)) qs

-- the sum over the numbers below one
abbrev pub sum_below : (ℕ → ℕ) → ℕ → ℕ
sum_below f zero = 0
sum_below f (suc n) = f n + sum_below f n

-- how many transitions without a byte all states have if each look counts as passed
abbrev pub free_ways : Automaton → ℕ
free_ways a = sum_below (λ q. length (free_steps a q)) (length a.states)
