-- Sequences of powerset states over bytes, and whether a list of states has no repeats, as steps require.
use Rattle.std.specs.Prelude.{ℕ, ◌&&◌, ◌++◌, not, Bool, true, false, List, [], ◌∷◌, map, reverse, length, Option, Some, None}
use Rattle.std.specs.Bool.{nat_eq}
use Rattle.std.specs.Option.{option_to_list}
use Rattle.look_core.specs.Terminators.{Terminator}
use Rattle.search_types.specs.declared.match_kind.MatchKind.{MatchKind}
use Rattle.nfa_core.specs.Nfa.{Automaton}
use Rattle.nfa_core.specs.Walks.{has}
use Rattle.nfa_core.specs.Ways.{Text, span}
use Rattle.determinize_core.specs.States.{StateValue}
use Rattle.determinize_core.specs.Steps.{step_value}

-- the state, and then the state after each of the units
abbrev pub walked : Automaton → Terminator → MatchKind → StateValue → List (Option ℕ) → List StateValue
walked a t kind v [] = v ∷ []
walked a t kind v (u ∷ us) = v ∷ walked a t kind (step_value a t kind v u) us

-- bytes as units, followed by the end of the input
abbrev pub units_of : List ℕ → List (Option ℕ)
units_of bytes = map Some bytes ++ None ∷ []

-- the haystack of a search that reads these bytes after this byte, if there is one, and the offset where it begins
abbrev pub haystack_of : Bool → Option ℕ → List ℕ → List ℕ
haystack_of false behind bytes = option_to_list behind ++ bytes
haystack_of true behind bytes = reverse bytes ++ option_to_list behind

abbrev pub starting_index : Bool → Option ℕ → List ℕ → ℕ
starting_index false behind bytes = length (option_to_list behind)
starting_index true behind bytes = length bytes

-- the edges of the bytes in that haystack
abbrev pub low_edge : Bool → Option ℕ → List ℕ → ℕ
low_edge false behind bytes = starting_index false behind bytes
low_edge true behind bytes = 0

abbrev pub high_edge : Bool → Option ℕ → List ℕ → ℕ
high_edge false behind bytes = length (haystack_of false behind bytes)
high_edge true behind bytes = starting_index true behind bytes

-- the bytes as a span of that haystack
abbrev pub text_of : Bool → Terminator → Option ℕ → List ℕ → Text
text_of reverse t behind bytes = span t (haystack_of reverse behind bytes) (low_edge reverse behind bytes) (high_edge reverse behind bytes)

-- whether no number occurs in the list twice
abbrev pub is_once : List ℕ → Bool
is_once [] = true
is_once (x ∷ xs) = not (has nat_eq x xs) && is_once xs
