-- The definitions on compiled automata compute: small automata over short haystacks, and looks that are turned round.
use Rattle.std.proofs.Common.{◌≡◌, true, false, [], ◌∷◌, Some, refl}
use Rattle.std.specs.List.{flat_map}
use Rattle.look_core.specs.Terminators.{Terminator}
use Rattle.look_core.specs.declared.look.Look.TheVariants.{StartLF, EndLF}
use Rattle.hir_core.specs.Tree.{look, repetition}
use Rattle.nfa_core.specs.Nfa.{Automaton, byte_range, binary_union, match_node}
use Rattle.nfa_core.specs.Places.{same_pair}
use Rattle.nfa_core.specs.Walks.{distinct}
use Rattle.nfa_core.specs.Ways.{ends_from, whole}
use Rattle.search_types.specs.FirstFound.{offsets_from}
use Rattle.thompson_nfa.specs.Compilations.{pattern_start}
use Rattle.thompson_nfa.specs.Compiled.{turned, uses}

-- ---- looks

turned_reverse : turned true StartLF ≡ EndLF
turned_reverse = refl

turned_forward : turned false StartLF ≡ StartLF
turned_forward = refl

used_forward : uses false (look StartLF) StartLF ≡ true
used_forward = refl

used_reverse : uses true (look StartLF) EndLF ≡ true
used_reverse = refl

not_used_reverse : uses true (look StartLF) StartLF ≡ false
not_used_reverse = refl

used_in_no_round : uses false (repetition 0 (Some 0) true (look StartLF)) StartLF ≡ false
used_in_no_round = refl

-- ---- the patterns `a` and `b`, and what comes before them

abbrev a_and_b : Automaton
a_and_b = record {
  states = binary_union 6 1 ∷ byte_range 0x00 0xFF 0 ∷ byte_range 0x61 0x61 3 ∷ match_node 0 ∷ byte_range 0x62 0x62 5 ∷ match_node 1 ∷
      binary_union 2 4 ∷ [];
  start_anchored = 6;
  start_unanchored = 0;
  start_pattern = 2 ∷ 4 ∷ [];
  reverse = false;
}

anchored_ends : (t : Terminator) → ends_from a_and_b (whole t (0x61 ∷ 0x62 ∷ [])) (0, 6) ≡ (1, 0) ∷ []
anchored_ends t = refl

unanchored_ends : (t : Terminator) → ends_from a_and_b (whole t (0x61 ∷ 0x62 ∷ [])) (0, 0) ≡ (1, 0) ∷ (2, 1) ∷ []
unanchored_ends t = refl

one_place_after_the_other : (t : Terminator) → distinct same_pair (flat_map (λ k. ends_from a_and_b (whole t (0x61 ∷ 0x62 ∷ [])) (k, 6))
    (offsets_from 0 3)) ≡ (1, 0) ∷ (2, 1) ∷ []
one_place_after_the_other t = refl

one_pattern_after_the_other : (t : Terminator) →
    distinct same_pair (flat_map (λ p. ends_from a_and_b (whole t (0x61 ∷ 0x62 ∷ [])) (0, pattern_start a_and_b p)) (offsets_from 0 2)) ≡ (
      1,
      0,
    ) ∷ []
one_pattern_after_the_other t = refl

-- ---- the pattern `ab`, forward and in reverse

abbrev ab_forward : Automaton
ab_forward = record {
  states = binary_union 2 1 ∷ byte_range 0x00 0xFF 0 ∷ byte_range 0x61 0x61 3 ∷ byte_range 0x62 0x62 4 ∷ match_node 0 ∷ [];
  start_anchored = 2;
  start_unanchored = 0;
  start_pattern = 2 ∷ [];
  reverse = false;
}

abbrev ab_reverse : Automaton
ab_reverse = record {
  states = binary_union 2 1 ∷ byte_range 0x00 0xFF 0 ∷ byte_range 0x62 0x62 3 ∷ byte_range 0x61 0x61 4 ∷ match_node 0 ∷ [];
  start_anchored = 2;
  start_unanchored = 0;
  start_pattern = 2 ∷ [];
  reverse = true;
}

found_forward : (t : Terminator) → ends_from ab_forward (whole t (0x61 ∷ 0x62 ∷ [])) (0, 2) ≡ (2, 0) ∷ []
found_forward t = refl

found_in_reverse : (t : Terminator) → ends_from ab_reverse (whole t (0x61 ∷ 0x62 ∷ [])) (2, 2) ≡ (0, 0) ∷ []
found_in_reverse t = refl
