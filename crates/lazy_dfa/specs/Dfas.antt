-- What contracts see of a lazy DFA, and the invariant of each lazy DFA.
use Rattle.std.specs.Prelude.{◌≡◌, ◌<◌, ◌≤◌, ◌+◌, ℕ, Bool, true, false, List, length, Option, Some, None, slice_index, slice_get, zero, suc}
use Rattle.std.specs.Prelude.{⊤, [], ◌∷◌, ◌&&◌, ◌==◌, not}
use Rattle.nfa_core.specs.NfaValue.{Nfa, IsSound}
use Rattle.determinize_core.specs.States.{StateValue}
use Rattle.determinize_core.specs.StateBytes.{encoded}
use Rattle.determinize_core.specs.Stepped.{IsStepped}
use Rattle.determinize_core.specs.Steps.{step_value, start_value}
use Rattle.determinize_core.specs.declared.start.Start.{Start}
use Rattle.lazy_dfa.specs.Accounting.{Measures, measures_of, longest_state, state_cost, least_capacity, effective_capacity}
use Rattle.lazy_dfa.specs.ConfigValue.{DfaOptions, kind_of, starts_each_of, word_boundary_of, by_hand, capacity_of, skips_check}
use Rattle.lazy_dfa.specs.Quits.{quit_bytes, is_unsupported}
use Rattle.lazy_dfa.specs.Readers.{Reader, reader_of, is_quit}

pub record Dfa : Type 0 where
  pub nfa : Nfa
  pub options : DfaOptions  -- as they were given
  pub classes : List ℕ  -- the class of each byte
  pub quits : List Bool  -- for each byte whether a search gives up at it
  pub measures : Measures
  pub capacity : ℕ  -- how many bytes a cache may take

-- what its searches depend on
abbrev pub reader : Dfa → Reader
reader d = reader_of d.nfa (kind_of d.options) d.quits (starts_each_of d.options)

-- the state after a unit
unfoldable pub after : Dfa → StateValue → Option ℕ → StateValue
after d s u = step_value d.nfa.automaton d.nfa.terminator (kind_of d.options) s u

-- the state in which a search starts from state q of the NFA
unfoldable pub first_state : Dfa → Start → ℕ → StateValue
first_state d s q = start_value d.nfa.automaton d.nfa.terminator s q

-- The NFA state in which a search in a mode starts. Mode 0 is unanchored, mode 1 is anchored, and the other modes are
-- those of patterns.
abbrev pub start_in : Dfa → ℕ → Option ℕ
start_in d zero = Some d.nfa.automaton.start_unanchored
start_in d (suc zero) = Some d.nfa.automaton.start_anchored
start_in d (suc (suc p)) = slice_get d.nfa.automaton.start_pattern p

-- a unit is a byte, or none at the end of the input
abbrev pub IsUnit : Option ℕ → Type 0
IsUnit None = ⊤
IsUnit (Some b) = b < 256

-- the class of a unit; the end of the input has a class of its own
abbrev pub class_of : List ℕ → Option ℕ → ℕ
class_of classes None = slice_index classes 255 + 1
class_of classes (Some b) = slice_index classes b

-- a state from which a step may be made: one of those to which starts and steps lead
pub record IsStateOf (d : Dfa) (s : StateValue) : Type 0 where
  pub stepped : IsStepped d.nfa.automaton s
  pub short : length (encoded s) ≤ longest_state d.measures

-- two units that no step distinguishes
unfoldable pub Alike : Dfa → Option ℕ → Option ℕ → Type 0
Alike d u w = (is_quit d.quits u ≡ is_quit d.quits w) × ((s : StateValue) → IsStepped d.nfa.automaton s → after d s u ≡ after d s w)

-- what a state adds to the byte count of a cache
abbrev pub cost : ℕ → StateValue → ℕ
cost stride s = state_cost stride (length (encoded s))

pub record IsDfa (d : Dfa) : Type 0 where
  pub sound : IsSound d.nfa.automaton
  pub quit : d.quits ≡ quit_bytes d.nfa.automaton (word_boundary_of d.options) (by_hand d.options)
  pub supported : is_unsupported d.nfa.automaton (word_boundary_of d.options) (by_hand d.options) ≡ false
  pub measured : d.measures ≡ measures_of d.nfa.automaton d.classes (starts_each_of d.options)
  pub effective : d.capacity ≡ effective_capacity d.measures (skips_check d.options) (capacity_of d.options)
  pub narrow : d.measures.stride ≤ 512
  pub classed : (u : Option ℕ) → IsUnit u → class_of d.classes u < d.measures.stride
  pub alike : (u w : Option ℕ) → IsUnit u → IsUnit w → class_of d.classes u ≡ class_of d.classes w → Alike d u w
  pub enough : least_capacity d.measures ≤ d.capacity

-- ---- the dead state

abbrev pub is_empty : List ℕ → Bool
is_empty [] = true
is_empty (x ∷ xs) = false

-- whether the state is the dead one
abbrev pub is_dead : StateValue → Bool
is_dead v = is_empty v.ids && is_empty v.matches && v.look_have == 0 && v.look_need == 0 && not v.is_from_word && not v.is_half_crlf
