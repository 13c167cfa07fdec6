-- Pairs to which nothing leads back.
use Rattle.std.specs.Prelude.{◌≡◌, ℕ, List}
use Rattle.nfa_core.specs.Nfa.{Automaton}
use Rattle.nfa_core.specs.Places.{same_pair}
use Rattle.nfa_core.specs.Runs.{IsChain, last_or}
use Rattle.nfa_core.specs.Walks.{Has}
use Rattle.nfa_core.specs.Ways.{Text, ways}

-- no chain from where the pair leads returns to it
abbrev pub IsLeftForGood : Automaton → Text → ℕ × ℕ → Type 0
IsLeftForGood a t p = (q : ℕ × ℕ) → Has same_pair q (ways a t p) → (r : List (ℕ × ℕ)) → IsChain same_pair (ways a t) q r → last_or q r ≡ p →
    ⊥
