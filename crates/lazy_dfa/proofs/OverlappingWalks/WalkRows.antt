-- Overlapping searches of small automata, calculated by hand.
use Rattle.std.proofs.Common.{◌≡◌, Bool, true, false, List, [], ◌∷◌, Some, None, refl}
use Rattle.search_types.specs.declared.match_error.MatchErrorKind.TheVariants.{Quit}
use Rattle.search_types.specs.declared.match_kind.MatchKind.TheVariants.{All as AllMatches}
use Rattle.nfa_core.specs.Nfa.{Node, Automaton, byte_range, binary_union, union_node, match_node}
use Rattle.determinize_core.specs.LookBehind.{families_of}
use Rattle.determinize_core.specs.KnownBefore.{known_lines, known_words}
use Rattle.lazy_dfa.specs.Readers.{Reader}
use Rattle.lazy_dfa.specs.Scans.{next_value, start_or_dead}
use Rattle.lazy_dfa.specs.Overlapping.{rest_from, whole_rest}
use Rattle.lazy_dfa.specs.OverlappingAnswers.{which_of}
use Rattle.lazy_dfa.proofs.HalfSearches.ScanRows.{forward, backward, no_quits, only, reads, over}

abbrev for_all : Automaton → List Bool → Reader
for_all a quits = record (reads a quits) { kind = AllMatches }

-- ---- `[a-z]+` and `a`, on "ab"

abbrev word : List Node
word = byte_range 97 122 3 ∷ binary_union 2 4 ∷ match_node 0 ∷ []

each_end_of_a_word_is_told : whole_rest (for_all (forward word) no_quits) (over (97 ∷ 98 ∷ []) 0 2)
    ≡ record { ends = (1, 0) ∷ (2, 0) ∷ []; rejection = None }
unfolding families_of known_lines known_words next_value start_or_dead rest_from
each_end_of_a_word_is_told = refl

one_letter_ends_once : whole_rest (for_all (forward (byte_range 97 97 3 ∷ match_node 0 ∷ [])) no_quits) (over (97 ∷ 98 ∷ []) 0 2)
    ≡ record { ends = (1, 0) ∷ []; rejection = None }
unfolding families_of known_lines known_words next_value start_or_dead rest_from
one_letter_ends_once = refl

-- the end at 1 would only be reported after the byte there is read, and that is a quit byte
quit_byte_hides_the_end_before_it : whole_rest (for_all (forward word) (only 98)) (over (97 ∷ 98 ∷ []) 0 2)
    ≡ record { ends = []; rejection = Some (Quit 98 1) }
unfolding families_of known_lines known_words next_value start_or_dead rest_from
quit_byte_hides_the_end_before_it = refl

-- ends before the one at the quit byte are reported
ends_before_a_quit_byte_are_told : whole_rest (for_all (forward word) (only 99)) (over (97 ∷ 98 ∷ 99 ∷ []) 0 3)
    ≡ record { ends = (1, 0) ∷ []; rejection = Some (Quit 99 2) }
unfolding families_of known_lines known_words next_value start_or_dead rest_from
ends_before_a_quit_byte_are_told = refl

-- ---- in reverse: the patterns "b" and "b", on "ab"

abbrev two_alike : List Node
two_alike = binary_union 3 5 ∷ byte_range 98 98 4 ∷ match_node 0 ∷ byte_range 98 98 6 ∷ match_node 1 ∷ []

both_patterns_start_at_one_place : whole_rest (for_all (backward two_alike) no_quits) (over (97 ∷ 98 ∷ []) 0 2)
    ≡ record { ends = (1, 0) ∷ (1, 1) ∷ []; rejection = None }
unfolding families_of known_lines known_words next_value start_or_dead rest_from
both_patterns_start_at_one_place = refl

-- ---- which patterns: "a", "b" and "a", on "ab"

abbrev three : Reader
three = for_all (forward (union_node (3 ∷ 5 ∷ 7 ∷ []) ∷ byte_range 97 97 4 ∷ match_node 0 ∷ byte_range 98 98 6 ∷ match_node 1 ∷ byte_range
    97 97 8 ∷ match_node 2 ∷ [])) no_quits

all_three_patterns_are_added : which_of three (over (97 ∷ 98 ∷ []) 0 2) (false ∷ false ∷ false ∷ [])
    ≡ record { set = true ∷ true ∷ true ∷ []; rejection = None }
unfolding families_of known_lines known_words next_value start_or_dead rest_from
all_three_patterns_are_added = refl

patterns_without_room_are_skipped : which_of three (over (97 ∷ 98 ∷ []) 0 2) (false ∷ false ∷ [])
    ≡ record { set = true ∷ true ∷ []; rejection = None }
unfolding families_of known_lines known_words next_value start_or_dead rest_from
patterns_without_room_are_skipped = refl

-- ---- the empty pattern on "β": no end inside the character

abbrev empty_match : Reader
empty_match = record (for_all (forward (match_node 0 ∷ [])) no_quits) { between_characters = true }

ends_inside_a_character_are_left_out : whole_rest empty_match (over (206 ∷ 178 ∷ []) 0 2)
    ≡ record { ends = (0, 0) ∷ (2, 0) ∷ []; rejection = None }
unfolding families_of known_lines known_words next_value start_or_dead rest_from
ends_inside_a_character_are_left_out = refl
