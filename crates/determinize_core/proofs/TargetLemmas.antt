-- What a state leads to by a unit is a state.
use Rattle.std.proofs.Common.{◌≡◌, ℕ, ◌<◌, List, [], length, Option, Some, None, IfSome, option_to_list, subst}
use Rattle.std.specs.Bool.{nat_eq}
use Rattle.std.specs.List.{flat_map}
use Rattle.nfa_core.specs.Walks.{Has}
use Rattle.nfa_core.specs.Nfa.{Node, Automaton, node_at, IsWellFormed}
use Rattle.nfa_core.specs.Reached.{AreBelow}
use Rattle.nfa_core.specs.Ways.{on_byte}
use Rattle.nfa_core.proofs.ForCallers.{read_led, none_in, has_first, of_flat_map, names_equal}
use Rattle.determinize_core.specs.Steps.{unit_steps}

pub byte_below : (a : Automaton) → IsWellFormed a → (b q r : ℕ) → Has nat_eq r (on_byte (node_at a q) b) → r < length a.states
byte_below a formed b q r h = formed q r (read_led (node_at a q) (Some (b, 0)) r h)

pub unit_below : (a : Automaton) → IsWellFormed a → (u : Option ℕ) (q : ℕ) → AreBelow (length a.states) (unit_steps a u q)
unit_below a formed None q = λ r h. none_in nat_eq r _ h
unit_below a formed (Some b) q = λ r h. byte_below a formed b q r h

pub units_below : (a : Automaton) → IsWellFormed a → (u : Option ℕ) (qs : List ℕ) →
    AreBelow (length a.states) (flat_map (unit_steps a u) qs)
units_below a formed u qs = of_flat_map nat_eq names_equal nat_eq (unit_steps a u) (λ r. r < length a.states) qs
    (λ q _h. unit_below a formed u q)

pub one_below : (a : Automaton) → IsWellFormed a → (b q : ℕ) (node : Node) (o : Option ℕ) → node ≡ node_at a q →
    option_to_list o ≡ on_byte node b → IfSome o (λ r. r < length a.states)
one_below a formed b q node None is e = tt
one_below a formed b q node (Some r) is e =
    byte_below a formed b q r (subst (λ (w : Node). Has nat_eq r (on_byte w b)) is
    (subst (λ (xs : List ℕ). Has nat_eq r xs) e (has_first nat_eq names_equal r [])))
