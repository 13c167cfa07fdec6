-- The parts of an NFA that its code holds, as contracts see them, and what it stores about its automaton in addition.
use Rattle.std.specs.Prelude.{◌≡◌, ℕ, zero, suc, ◌<◌, List, [], ◌∷◌, map, length, slice_index, false, true, None}
use Rattle.std.specs.List.{list_any}
use Rattle.search_core.specs.Marks.{marks_below}
use Rattle.look_core.specs.Terminators.{Terminator, one_of}
use Rattle.nfa_core.specs.Nfa.{capture_node, fail_node, match_node, Automaton}
use Rattle.nfa_core.specs.NfaValue.{Nfa, looks_of, is_capture, has_empty, prefix_looks, memory_of}
use Rattle.nfa_core.specs.Alike.{marks_of}
use Rattle.nfa_core.specs.States.{node_of}
use Rattle.nfa_core.specs.declared.nfa_parts.Parts.{Parts}
use Rattle.nfa_core.specs.declared.nfa_facts.Facts.{Facts}

abbrev pub automaton_in : Parts → Automaton
automaton_in parts = record {
  states = map node_of parts.states.items;
  start_anchored = parts.start_anchored;
  start_unanchored = parts.start_unanchored;
  start_pattern = parts.start_pattern.items;
  reverse = parts.reverse;
}

abbrev pub nfa_in : Parts → Nfa
nfa_in parts = record {
  automaton = automaton_in parts;
  groups = parts.group_info;
  utf8 = parts.utf8;
  terminator = parts.look_matcher.terminator;
}

-- these are the facts of the automaton if lines end at the terminator
pub record AreFacts (t : Terminator) (a : Automaton) (facts : Facts) : Type 0 where
  pub captures : facts.has_capture ≡ list_any is_capture a.states
  pub empty : facts.has_empty ≡ has_empty a
  pub looks : facts.look_set_any ≡ looks_of a.states
  pub prefix : facts.look_set_prefix_any ≡ prefix_looks a
  pub marks : facts.byte_class_set ≡ marks_of t a.states
  pub all_bytes : length facts.byte_classes ≡ 256
  pub classes : (b : ℕ) → b < 256 → slice_index facts.byte_classes b ≡ marks_below facts.byte_class_set b
  pub memory : facts.memory ≡ memory_of a.states

-- so many numbers, from the first one on
abbrev pub numbered_from : ℕ → ℕ → List ℕ
numbered_from first zero = []
numbered_from first (suc n) = first ∷ numbered_from (suc first) n

-- the NFA of one pattern that matches the empty string at each offset: the whole match's start and end, and the match
abbrev pub always_matching : Nfa
always_matching = record {
  automaton = record {
    states = capture_node 1 0 0 0 ∷ capture_node 2 0 0 1 ∷ match_node 0 ∷ [];
    start_anchored = 0;
    start_unanchored = 0;
    start_pattern = 0 ∷ [];
    reverse = false;
  };
  groups = (None ∷ []) ∷ [];
  utf8 = true;
  terminator = one_of 0x0A;
}

-- the NFA of no pattern, whose one state leads nowhere
abbrev pub never_matching : Nfa
never_matching = record {
  automaton = record { states = fail_node ∷ []; start_anchored = 0; start_unanchored = 0; start_pattern = []; reverse = false };
  groups = [];
  utf8 = true;
  terminator = one_of 0x0A;
}
