-- Units of the input that an automaton does not distinguish.
use Rattle.std.specs.Prelude.{ℕ, Option, Some, None}
use Rattle.look_core.specs.Terminators.{Terminator}
use Rattle.nfa_core.specs.Alike.{AreAlike}
use Rattle.nfa_core.specs.Nfa.{Automaton}

-- two bytes that it does not distinguish; the end of the input is alike only with itself
abbrev pub AreUnitsAlike : Automaton → Terminator → Option ℕ → Option ℕ → Type 0
AreUnitsAlike a t None None = Unit {0}
AreUnitsAlike a t (Some b) (Some c) = AreAlike t a b c
AreUnitsAlike a t None (Some c) = ⊥
AreUnitsAlike a t (Some b) None = ⊥
