-- The step from a powerset state to the next one by a unit of the input, as a function of values. A unit is a byte, or none at the end of
-- the input.
use Rattle.std.specs.Prelude.{ℕ, zero, suc, ◌==◌, ◌&&◌, ◌||◌, ◌++◌, not, Bool, true, false, List, [], ◌∷◌, length, Option, Some, None}
use Rattle.std.specs.Prelude.{if◌then◌else◌}
use Rattle.std.specs.Bool.{nat_eq}
use Rattle.std.specs.List.{filter, flat_map, fold}
use Rattle.std.specs.Option.{option_to_list}
use Rattle.search_core.specs.Text.{byte_at, byte_before}
use Rattle.look_core.specs.LookSets.{has_look, union_of, shared_by, without}
use Rattle.look_core.specs.Looks.{word_if, byte_side, is_no_word, is_word, is_byte, is_line_end}
use Rattle.look_core.specs.Terminators.{Terminator}
use Rattle.search_types.specs.declared.match_kind.MatchKind.{MatchKind}
use Rattle.search_types.specs.declared.match_kind.MatchKind.TheVariants.{All as AllMatches, LeftmostFirst}
use Rattle.nfa_core.specs.Walks.{chain_ends, distinct}
use Rattle.nfa_core.specs.Runs.{answers}
use Rattle.nfa_core.specs.Places.{before_answer, first}
use Rattle.nfa_core.specs.Nfa.{Automaton, Node, match_node, node_at}
use Rattle.nfa_core.specs.NfaValue.{look_of, looks_of, is_capture}
use Rattle.nfa_core.specs.Ways.{on_byte, on_nothing, offset_of}
use Rattle.determinize_core.specs.States.{StateValue, dead}
use Rattle.determinize_core.specs.LookBehind.{families_of, starts_of, look_behind, with_look_behind}
use Rattle.determinize_core.specs.Starts.{start_of}
use Rattle.determinize_core.specs.KnownBefore.{known_words, known_lines}
pub use Rattle.determinize_core.specs.KnownBefore.{first_half, second_half, is_end}
use Rattle.determinize_core.specs.declared.lookbehind.LookBehind.{LookBehind}
use Rattle.determinize_core.specs.declared.lookbehind.Families.{Families}
use Rattle.determinize_core.specs.declared.start.Start.{Start}

-- ---- the looks at an offset

-- the looks that are known to hold at the offset of a state, with those that the unit after it decides
abbrev pub known_before : Bool → Terminator → StateValue → Option ℕ → ℕ
known_before reverse t v u = known_lines reverse t v.is_half_crlf u (known_words (word_if v.is_from_word) (byte_side u) v.look_have)

-- the looks that hold after a unit whatever follows it, of the families that an automaton has
abbrev pub known_after : Families → Bool → Terminator → Option ℕ → ℕ
known_after f reverse t u = starts_of (record {
  haystack = false;
  lines = f.lines && is_line_end t u;
  crlf = f.crlf && is_byte (second_half reverse) u;
  words = f.words && is_no_word (byte_side u);
})

-- ---- the states of the automaton

-- where a state leads without a byte under the looks that are known to hold
abbrev pub known_steps : Automaton → ℕ → ℕ → List ℕ
known_steps a looks q = on_nothing (node_at a q) (has_look looks)

-- the states that a depth-first search from these reaches, in order, along such transitions, each once
abbrev pub closed : Automaton → ℕ → List ℕ → List ℕ
closed a looks qs = distinct nat_eq (flat_map (chain_ends nat_eq (known_steps a looks) (length a.states) []) qs)

-- where a state leads by the unit
abbrev pub unit_steps : Automaton → Option ℕ → ℕ → List ℕ
unit_steps a None q = []
unit_steps a (Some b) q = on_byte (node_at a q) b

abbrev pub pattern_of : Node → Option ℕ
pattern_of (match_node p) = Some p
pattern_of _ = None

-- the pattern that matches in a state
abbrev pub pattern_at : Automaton → ℕ → Option ℕ
pattern_at a q = pattern_of (node_at a q)

-- of these states, those that read the next unit: under leftmost-first the ones before the first match
abbrev pub reading : MatchKind → Automaton → List ℕ → List ℕ
reading AllMatches a qs = qs
reading LeftmostFirst a qs = before_answer (pattern_at a) qs

-- the patterns that match in these states, each once; under leftmost-first the first alone
abbrev pub patterns_in : MatchKind → Automaton → List ℕ → List ℕ
patterns_in AllMatches a qs = distinct nat_eq (answers (pattern_at a) qs)
patterns_in LeftmostFirst a qs = option_to_list (first (answers (pattern_at a) qs))

-- a powerset state keeps no captures
abbrev pub is_kept : Automaton → ℕ → Bool
is_kept a q = not (is_capture (node_at a q))

abbrev pub kept_among : Automaton → List ℕ → List ℕ
kept_among a qs = filter (is_kept a) qs

-- the looks of these states, with those of a set
abbrev pub looks_with : Automaton → ℕ → List ℕ → ℕ
looks_with a looks qs = fold (λ s q. union_of s (look_of (node_at a q))) looks qs

-- known looks are kept only if looks are needed
abbrev pub have_if : ℕ → ℕ → ℕ
have_if need have = if need == 0 then 0 else have

-- ---- states

-- the state with these states of the automaton after its own, and with their looks
abbrev pub with_states : Automaton → List ℕ → StateValue → StateValue
with_states a qs v = record v {
  look_have = have_if (looks_with a v.look_need qs) v.look_have;
  look_need = looks_with a v.look_need qs;
  ids = v.ids ++ kept_among a qs;
}

-- whether these looks include a needed one that wasn't known to hold
abbrev pub gains : StateValue → ℕ → Bool
gains v looks = not (shared_by (without looks v.look_have) v.look_need == 0)

-- the states at the offset of a state before the unit, by the looks that the unit decides
abbrev pub ids_before : Automaton → Terminator → StateValue → Option ℕ → List ℕ
ids_before a t v u =
    if gains v (known_before a.reverse t v u) then closed a (known_before a.reverse t v u) v.ids else v.ids

abbrev pub families : Automaton → Families
families a = families_of (looks_of a.states)

-- the states after the unit
abbrev pub states_after : Automaton → Terminator → MatchKind → StateValue → Option ℕ → List ℕ
states_after a t kind v u =
    closed a (known_after (families a) a.reverse t u) (flat_map (unit_steps a u) (reading kind a (ids_before a t v u)))

abbrev pub is_some_kept : Automaton → List ℕ → Bool
is_some_kept a [] = false
is_some_kept a (q ∷ qs) = is_kept a q || is_some_kept a qs

-- what is known after the unit, apart from states; if no state after it is kept, no flag is set
abbrev pub begun : Automaton → Terminator → MatchKind → StateValue → Option ℕ → StateValue
begun a t kind v u = record {
  is_from_word = (families a).words && (is_word (byte_side u) && is_some_kept a (states_after a t kind v u));
  is_half_crlf = (families a).crlf && (is_byte (first_half a.reverse) u && is_some_kept a (states_after a t kind v u));
  look_have = known_after (families a) a.reverse t u;
  look_need = 0;
  matches = patterns_in kind a (ids_before a t v u);
  ids = [];
}

-- The state after the unit. It lists what matched before the unit.
abbrev pub step_value : Automaton → Terminator → MatchKind → StateValue → Option ℕ → StateValue
step_value a t kind v u = with_states a (states_after a t kind v u) (begun a t kind v u)

-- the looks and flags of a start
abbrev pub look_behind_of : Automaton → Terminator → Start → LookBehind
look_behind_of a t s = look_behind (looks_of a.states) a.reverse t s

-- the state in which a search starts, from state q of the automaton
abbrev pub start_value : Automaton → Terminator → Start → ℕ → StateValue
start_value a t s q = with_states a (closed a (look_behind_of a t s).look_have (q ∷ [])) (with_look_behind (look_behind_of a t s) dead)

-- ---- sequences of states

-- the byte that a search forward or in reverse reads next at an offset, even beyond its span, and the byte just before it in that direction
abbrev pub unit_at : Bool → List ℕ → ℕ → Option ℕ
unit_at false h i = byte_at h i
unit_at true h i = byte_before h i

abbrev pub unit_before : Bool → List ℕ → ℕ → Option ℕ
unit_before false h i = byte_before h i
unit_before true h i = byte_at h i

-- The state after k units of the haystack, from state q of the automaton at offset i.
abbrev pub value_after : Automaton → Terminator → MatchKind → List ℕ → ℕ → ℕ → ℕ → StateValue
value_after a t kind h i q zero = start_value a t (start_of t (unit_before a.reverse h i)) q
value_after a t kind h i q (suc k) = step_value a t kind (value_after a t kind h i q k) (unit_at a.reverse h (offset_of a.reverse i k))
