-- What is built of the states of the byte `a` after any other bytes, by computation.
use Rattle.std.proofs.Common.{◌≡◌, List, [], ◌∷◌, refl, false, true, Some, None}
use Rattle.look_core.specs.Terminators.{one_of}
use Rattle.nfa_core.specs.BuilderStates.{Assembly, DraftNode, empty_draft, range_draft, sparse_draft, union_draft, union_reverse_draft}
use Rattle.nfa_core.specs.BuilderStates.{match_draft, blank, with_group, patched, bytes_of_drafts, draft_at}
use Rattle.nfa_core.specs.BuilderFaults.{limit_fault, exceeded_size_limit}
use Rattle.nfa_core.specs.Drafted.{table_match}
use Rattle.nfa_core.specs.Nfa.{Automaton, byte_range, binary_union, match_node}
use Rattle.nfa_core.specs.NfaParts.{always_matching}
use Rattle.nfa_core.specs.NfaValue.{has_empty, reached_freely, memory_of}
use Rattle.nfa_core.specs.Renaming.{past, new_name, automaton_of}

-- a union that prefers its last alternative, an empty state that stands for it, all bytes, the byte 0x61, and a match
abbrev byte_a : List DraftNode
byte_a = union_reverse_draft (2 ∷ 3 ∷ []) ∷ empty_draft 0 ∷ sparse_draft ((
  0x00,
  0xFF,
  1,
) ∷ []) ∷ range_draft 0x61 0x61 4 ∷ match_draft 0 ∷ []

abbrev byte_a_builder : Assembly
byte_a_builder = record (blank (one_of 0x0A)) { drafts = byte_a; starts = 3 ∷ [] }

abbrev byte_a_automaton : Automaton
byte_a_automaton = record {
  states = binary_union 2 1 ∷ byte_range 0x00 0xFF 0 ∷ byte_range 0x61 0x61 3 ∷ match_node 0 ∷ [];
  start_anchored = 2;
  start_unanchored = 0;
  start_pattern = 2 ∷ [];
  reverse = false;
}

is_built : automaton_of byte_a_builder 3 0 ≡ byte_a_automaton
is_built = refl

past_the_empty_state : past byte_a 1 ≡ 0
past_the_empty_state = refl

name_of_the_match : new_name byte_a 4 ≡ 3
name_of_the_match = refl

five_states : bytes_of_drafts byte_a ≡ 136
five_states = refl

four_states : memory_of byte_a_automaton.states ≡ 96
four_states = refl

a_byte_is_read : (reached_freely byte_a_automaton ≡ 2 ∷ []) × (has_empty byte_a_automaton ≡ false)
a_byte_is_read = (refl, refl)

no_byte_is_read : (reached_freely always_matching.automaton ≡ 0 ∷ 1 ∷ 2 ∷ []) × (has_empty always_matching.automaton ≡ true)
no_byte_is_read = (refl, refl)

match_of_the_table : table_match (draft_at byte_a) (7, 4) ≡ Some (7, 0)
match_of_the_table = refl

group_two : with_group [] 0 2 (Some (0x61 ∷ [])) ≡ (None ∷ None ∷ Some (0x61 ∷ []) ∷ []) ∷ []
group_two = refl

group_that_is_there : with_group ((None ∷ None ∷ []) ∷ []) 0 1 (Some (0x61 ∷ [])) ≡ (None ∷ None ∷ []) ∷ []
group_that_is_there = refl

one_way_more : patched 5 (union_draft (2 ∷ [])) ≡ union_draft (2 ∷ 5 ∷ [])
one_way_more = refl

another_way : patched 5 (range_draft 0x61 0x61 0) ≡ range_draft 0x61 0x61 5
another_way = refl

fourth_state : limit_fault (Some 72) (bytes_of_drafts (match_draft 0 ∷ match_draft 0 ∷ match_draft 0 ∷ match_draft 0 ∷ [])) ≡ Some
    (exceeded_size_limit 72)
fourth_state = refl
