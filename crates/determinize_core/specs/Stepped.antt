-- What holds of the states that starts and steps of an automaton lead to.
use Rattle.std.specs.Prelude.{◌≡◌, ◌<◌, ◌+◌, ◌*◌, ℕ, true, All, length}
use Rattle.std.specs.Bool.{nat_eq}
use Rattle.std.specs.List.{IsDistinct}
use Rattle.look_core.specs.LookSets.{has_look}
use Rattle.look_core.specs.declared.look.Look.{Look}
use Rattle.nfa_core.specs.Nfa.{Automaton}
use Rattle.nfa_core.specs.NfaValue.{looks_of}
use Rattle.determinize_core.specs.States.{StateValue, IsState}

-- a state of this automaton's states, looks and patterns, none twice: a step may be made from it
pub record IsStepped (a : Automaton) (v : StateValue) : Type 0 where
  pub state : IsState v
  pub below : All (λ q. q < length a.states) v.ids
  pub once : IsDistinct nat_eq v.ids
  pub looks : (l : Look) → has_look v.look_need l ≡ true → has_look (looks_of a.states) l ≡ true
  pub patterns : All (λ p. p < length a.start_pattern) v.matches

-- the bytes of such a state are at most so many
abbrev pub widest : Automaton → ℕ
widest a = 13 + 4 * length a.start_pattern + 5 * length a.states
