-- Half searches of small automata, calculated by hand.
use Rattle.std.proofs.Common.{◌≡◌, ℕ, ◌-◌, Bool, true, false, List, [], ◌∷◌, ◌++◌, replicate, Some, None, Ok, Err, refl}
use Rattle.look_core.specs.declared.look.Look.TheVariants.{Start, End, EndLF, StartLF, WordUnicode}
use Rattle.look_core.specs.Terminators.{Terminator, one_of}
use Rattle.search_types.specs.declared.match_kind.MatchKind.TheVariants.{All as AllMatches, LeftmostFirst}
use Rattle.search_types.specs.declared.anchored.Anchored.TheVariants.{No, Yes, Pattern}
use Rattle.search_types.specs.declared.match_error.MatchErrorKind.TheVariants.{Quit}
use Rattle.search_types.specs.Inputs.{Search}
use Rattle.nfa_core.specs.NfaParts.{never_matching}
use Rattle.nfa_core.specs.Nfa.{Node, Automaton, fail_node, byte_range, sparse_node, look_node, binary_union, match_node}
use Rattle.determinize_core.specs.LookBehind.{families_of}
use Rattle.determinize_core.specs.KnownBefore.{known_lines, known_words}
use Rattle.lazy_dfa.specs.Readers.{Reader, found, quit, unsupported}
use Rattle.lazy_dfa.specs.Quits.{with_high_bytes, has_high_bytes, quit_bytes, is_unsupported}
use Rattle.lazy_dfa.specs.Scans.{next_value, pass_from, start_or_dead}
use Rattle.lazy_dfa.specs.HalfSearches.{half_search}
use Rattle.lazy_dfa.specs.HalfSearchLaws.{scan_len, scan_count}
use Rattle.lazy_dfa.specs.Linked.{scans_of}
use Rattle.lazy_dfa.specs.SearchAnswers.{ProgressValue, reported, progress_by, made_by}

-- ---- automata, readers, searches

-- states after an unanchored prefix, whose states are 0 and 1; an anchored search starts in state 2
abbrev pub forward : List Node → Automaton
forward states = record {
  states = binary_union 2 1 ∷ byte_range 0 255 0 ∷ states;
  start_anchored = 2;
  start_unanchored = 0;
  start_pattern = 2 ∷ [];
  reverse = false;
}

-- the reverse automaton with these states
abbrev pub backward : List Node → Automaton
backward states = record (forward states) { reverse = true }

-- no byte is a quit byte, or only one byte is
abbrev pub no_quits : List Bool
no_quits = replicate 256 false

abbrev pub only : ℕ → List Bool
only b = replicate b false ++ true ∷ replicate (255 - b) false

-- lines end at line feeds, and each end counts
abbrev pub reads : Automaton → List Bool → Reader
reads a quits = record {
  automaton = a;
  terminator = one_of 10;
  kind = LeftmostFirst;
  quits = quits;
  between_characters = false;
  starts_for_each_pattern = false;
}

abbrev pub over : List ℕ → ℕ → ℕ → Search
over h s e = record { haystack = h; start = s; end = e; anchored = No; earliest = false }

-- ---- what is found

-- `a+`, greedy
abbrev letters : List Node
letters = byte_range 97 97 3 ∷ binary_union 2 4 ∷ match_node 0 ∷ []

longest_end_is_found : half_search (reads (forward letters) (only 255)) (over (98 ∷ 97 ∷ 97 ∷ 98 ∷ []) 0 4) ≡ found (Some (3, 0))
unfolding families_of known_lines known_words next_value start_or_dead pass_from
longest_end_is_found = refl

earliest_end_is_found : half_search (reads (forward letters) (only 255)) (record (over (98 ∷ 97 ∷ 97 ∷ 98 ∷ []) 0 4) { earliest = true })
    ≡ found (Some (2, 0))
unfolding families_of known_lines known_words next_value start_or_dead pass_from
earliest_end_is_found = refl

anchored_search_looks_at_its_start_alone : half_search (reads (forward letters) (only 255))
    (record (over (98 ∷ 97 ∷ 97 ∷ 98 ∷ []) 0 4) { anchored = Yes }) ≡ found None
unfolding families_of known_lines known_words next_value start_or_dead pass_from
anchored_search_looks_at_its_start_alone = refl

-- in reverse, under `All`, the last offset in reading order
last_end_is_found_in_reverse : half_search (record (reads (backward letters) (only 255)) { kind = AllMatches })
    (record (over (98 ∷ 97 ∷ 97 ∷ 97 ∷ []) 0 3) { anchored = Yes }) ≡ found (Some (1, 0))
unfolding families_of known_lines known_words next_value start_or_dead pass_from
last_end_is_found_in_reverse = refl

-- ---- dates: four digits, a dash, two digits, a dash, two digits

abbrev date_forward : List Node
date_forward =
    byte_range 48 57 3 ∷ byte_range 48 57 4 ∷ byte_range 48 57 5 ∷ byte_range 48 57 6 ∷ byte_range 45 45 7 ∷
    byte_range 48 57 8 ∷ byte_range 48 57 9 ∷ byte_range 45 45 10 ∷ byte_range 48 57 11 ∷ byte_range 48 57 12 ∷ match_node 0 ∷ []

abbrev date_backward : List Node
date_backward =
    byte_range 48 57 3 ∷ byte_range 48 57 4 ∷ byte_range 45 45 5 ∷ byte_range 48 57 6 ∷ byte_range 48 57 7 ∷
    byte_range 45 45 8 ∷ byte_range 48 57 9 ∷ byte_range 48 57 10 ∷ byte_range 48 57 11 ∷ byte_range 48 57 12 ∷ match_node 0 ∷ []

-- "2018-12-24 2016-10-08"
abbrev two_dates : List ℕ
two_dates =
    50 ∷ 48 ∷ 49 ∷ 56 ∷ 45 ∷ 49 ∷ 50 ∷ 45 ∷ 50 ∷ 52 ∷ 32 ∷ 50 ∷ 48 ∷ 49 ∷ 54 ∷ 45 ∷ 49 ∷ 48 ∷ 45 ∷ 48 ∷ 56 ∷ []

abbrev date_start : Reader
date_start = record (reads (backward date_backward) no_quits) { kind = AllMatches }

end_of_the_first_date : half_search (reads (forward date_forward) no_quits) (over two_dates 0 21) ≡ found (Some (10, 0))
unfolding families_of known_lines known_words next_value start_or_dead pass_from
end_of_the_first_date = refl

end_of_the_second_date : half_search (reads (forward date_forward) no_quits) (over two_dates 10 21) ≡ found (Some (21, 0))
unfolding families_of known_lines known_words next_value start_or_dead pass_from
end_of_the_second_date = refl

start_of_the_first_date : half_search date_start (record (over two_dates 0 10) { anchored = Yes }) ≡ found (Some (0, 0))
unfolding families_of known_lines known_words next_value start_or_dead pass_from
start_of_the_first_date = refl

start_of_the_second_date : half_search date_start (record (over two_dates 10 21) { anchored = Yes }) ≡ found (Some (11, 0))
unfolding families_of known_lines known_words next_value start_or_dead pass_from
start_of_the_second_date = refl

-- ---- modes: the patterns "a" and "b"

abbrev two_letters : Automaton
two_letters = record {
  states =
      binary_union 2 1 ∷ byte_range 0 255 0 ∷ binary_union 3 5 ∷ byte_range 97 97 4 ∷ match_node 0 ∷ byte_range 98 98 6 ∷ match_node 1 ∷ [];
  start_anchored = 2;
  start_unanchored = 0;
  start_pattern = 3 ∷ 5 ∷ [];
  reverse = false;
}

named_pattern_is_unsupported : half_search (reads two_letters no_quits) (record (over (97 ∷ 98 ∷ []) 0 2) { anchored = Pattern 1 })
    ≡ unsupported (Pattern 1)
named_pattern_is_unsupported = refl

-- the byte before the start is looked at first
quit_behind_comes_before_the_mode : half_search (reads two_letters (only 120))
    (record (over (120 ∷ 97 ∷ 98 ∷ []) 1 3) { anchored = Pattern 1 }) ≡ quit 120 0
quit_behind_comes_before_the_mode = refl

-- whether the search is done is checked before that
done_search_comes_before_all : half_search (reads two_letters (only 97)) (record (over (97 ∷ 98 ∷ []) 2 1) { anchored = Pattern 1 })
    ≡ found None
done_search_comes_before_all = refl

abbrev named : Reader
named = record (reads two_letters no_quits) { starts_for_each_pattern = true }

named_pattern_is_found : half_search named (record (over (97 ∷ 98 ∷ []) 1 2) { anchored = Pattern 1 }) ≡ found (Some (2, 1))
unfolding families_of known_lines known_words next_value start_or_dead pass_from
named_pattern_is_found = refl

no_such_pattern : half_search named (record (over (97 ∷ 98 ∷ []) 0 2) { anchored = Pattern 7 }) ≡ found None
unfolding families_of known_lines known_words next_value start_or_dead pass_from
no_such_pattern = refl

-- ---- quit bytes

abbrev letter : List Node
letter = byte_range 97 97 3 ∷ match_node 0 ∷ []

-- after the match one more byte is read, and then the state is dead
match_shows_one_byte_late : half_search (reads (forward letter) no_quits) (over (97 ∷ 98 ∷ []) 0 2) ≡ found (Some (1, 0))
unfolding families_of known_lines known_words next_value start_or_dead pass_from
match_shows_one_byte_late = refl

quit_byte_behind_the_dead_state : half_search (reads (forward letter) (only 100)) (over (97 ∷ 98 ∷ 99 ∷ 100 ∷ []) 0 4) ≡ found
    (Some (1, 0))
unfolding families_of known_lines known_words next_value start_or_dead pass_from
quit_byte_behind_the_dead_state = refl

three_units_are_read : scan_len (reads (forward letter) (only 100)) (over (97 ∷ 98 ∷ 99 ∷ 100 ∷ []) 0 4) ≡ 3
unfolding families_of known_lines known_words next_value start_or_dead pass_from
three_units_are_read = refl

quit_byte_behind_a_match : half_search (reads (forward letter) (only 100)) (over (97 ∷ 98 ∷ 100 ∷ []) 0 3) ≡ quit 100 2
unfolding families_of known_lines known_words next_value start_or_dead pass_from
quit_byte_behind_a_match = refl

-- a state that leads nowhere isn't the dead state, so one more byte is read
abbrev letter_then_fail : List Node
letter_then_fail = byte_range 97 97 3 ∷ fail_node ∷ []

quit_byte_behind_a_state_that_leads_nowhere : half_search (reads (forward letter_then_fail) (only 98))
    (record (over (97 ∷ 98 ∷ []) 0 2) { anchored = Yes }) ≡
    quit 98 1
unfolding families_of known_lines known_words next_value start_or_dead pass_from
quit_byte_behind_a_state_that_leads_nowhere = refl

quit_byte_where_no_pattern_is : half_search (reads never_matching.automaton (only 97)) (over (97 ∷ []) 0 1) ≡ quit 97 0
unfolding families_of known_lines known_words next_value start_or_dead pass_from
quit_byte_where_no_pattern_is = refl

-- if a pattern is anchored at the start and has no prefix before it, the state after the first byte is dead
abbrev at_the_start : Automaton
at_the_start = record {
  states = look_node Start 1 ∷ byte_range 97 97 2 ∷ match_node 0 ∷ [];
  start_anchored = 0;
  start_unanchored = 0;
  start_pattern = 0 ∷ [];
  reverse = false;
}

quit_byte_behind_a_search_that_is_over : half_search (reads at_the_start (only 100)) (over (98 ∷ 99 ∷ 100 ∷ []) 0 3) ≡ found None
unfolding families_of known_lines known_words next_value start_or_dead pass_from
quit_byte_behind_a_search_that_is_over = refl

-- the byte just past the span is read, even if a match was found; in reverse, the byte just before the span
quit_past_the_span : half_search (reads (forward letters) (only 255)) (over (97 ∷ 255 ∷ []) 0 1) ≡ quit 255 1
unfolding families_of known_lines known_words next_value start_or_dead pass_from
quit_past_the_span = refl

quit_before_the_span : half_search (record (reads (backward letters) (only 255)) { kind = AllMatches })
    (record (over (255 ∷ 97 ∷ 97 ∷ []) 1 3) { anchored = Yes }) ≡ quit 255 0
unfolding families_of known_lines known_words next_value start_or_dead pass_from
quit_before_the_span = refl

-- `[0-9A-Z_a-z]+`, followed by the end of the haystack
abbrev words_to_the_end : List Node
words_to_the_end =
    sparse_node ((48, 57, 3) ∷ (65, 90, 3) ∷ (95, 95, 3) ∷ (97, 122, 3) ∷ [])
    ∷ binary_union 2 4 ∷ look_node End 5 ∷ match_node 0 ∷ []

quit_in_the_span : half_search (reads (forward words_to_the_end) (only 120)) (over (97 ∷ 98 ∷ 99 ∷ 120 ∷ 121 ∷ 122 ∷ []) 0 6) ≡ quit 120 3
unfolding families_of known_lines known_words next_value start_or_dead pass_from
quit_in_the_span = refl

-- ---- Unicode word boundaries

-- a word boundary, and "b"
abbrev word_b : List Node
word_b = look_node WordUnicode 3 ∷ byte_range 98 98 4 ∷ match_node 0 ∷ []

-- a word boundary, digits, and a word boundary, read in reverse
abbrev digits : List Node
digits = look_node WordUnicode 3 ∷ byte_range 48 57 4 ∷ binary_union 3 5 ∷ look_node WordUnicode 6 ∷ match_node 0 ∷ []

abbrev with_words : Automaton → Reader
with_words a = reads a (quit_bytes a true no_quits)

words_need_high_quit_bytes : is_unsupported (forward word_b) false no_quits ≡ true
unfolding has_high_bytes
words_need_high_quit_bytes = refl

high_bytes_set_by_hand_will_do : is_unsupported (forward word_b) false (replicate 128 false ++ replicate 128 true) ≡ false
unfolding has_high_bytes
high_bytes_set_by_hand_will_do = refl

without_words_all_is_supported : is_unsupported (forward letter) false no_quits ≡ false
without_words_all_is_supported = refl

-- "βb"
quit_at_a_high_byte : half_search (with_words (forward word_b)) (over (0xCE ∷ 0xB2 ∷ 98 ∷ []) 0 3) ≡ quit 0xCE 0
unfolding families_of known_lines known_words next_value start_or_dead pass_from with_high_bytes
quit_at_a_high_byte = refl

-- " b"
words_are_found_in_ascii : half_search (with_words (forward word_b)) (over (32 ∷ 98 ∷ []) 0 2) ≡ found (Some (2, 0))
unfolding families_of known_lines known_words next_value start_or_dead pass_from with_high_bytes
words_are_found_in_ascii = refl

-- "β123", from the offset after "β"
quit_at_a_high_byte_in_reverse : half_search (with_words (backward digits)) (over (0xCE ∷ 0xB2 ∷ 49 ∷ 50 ∷ 51 ∷ []) 2 5) ≡ quit 0xB2 1
unfolding families_of known_lines known_words next_value start_or_dead pass_from with_high_bytes
quit_at_a_high_byte_in_reverse = refl

-- "123β", up to "β"
quit_at_a_high_byte_behind : half_search (with_words (backward digits)) (over (49 ∷ 50 ∷ 51 ∷ 0xCE ∷ 0xB2 ∷ []) 0 3) ≡ quit 0xCE 3
unfolding families_of known_lines known_words next_value start_or_dead pass_from with_high_bytes
quit_at_a_high_byte_behind = refl

-- ---- lines: "a" at the end of a line, over "a" and a line feed

abbrev line_end : List Node
line_end = byte_range 97 97 3 ∷ look_node EndLF 4 ∷ match_node 0 ∷ []

abbrev line_end_backward : List Node
line_end_backward = look_node StartLF 3 ∷ byte_range 97 97 4 ∷ match_node 0 ∷ []

abbrev ending_at : Terminator → Automaton → Reader
ending_at t a = record (reads a no_quits) { terminator = t }

line_feed_ends_no_line : half_search (ending_at (one_of 0) (forward line_end)) (over (97 ∷ 10 ∷ []) 0 2) ≡ found None
unfolding families_of known_lines known_words next_value start_or_dead pass_from
line_feed_ends_no_line = refl

line_feed_ends_no_line_in_reverse : half_search (ending_at (one_of 0) (backward line_end_backward)) (over (97 ∷ 10 ∷ []) 0 1) ≡ found None
unfolding families_of known_lines known_words next_value start_or_dead pass_from
line_feed_ends_no_line_in_reverse = refl

line_feed_ends_a_line : half_search (ending_at (one_of 10) (forward line_end)) (over (97 ∷ 10 ∷ []) 0 2) ≡ found (Some (1, 0))
unfolding families_of known_lines known_words next_value start_or_dead pass_from
line_feed_ends_a_line = refl

line_feed_ends_a_line_in_reverse : half_search (ending_at (one_of 10) (backward line_end_backward)) (over (97 ∷ 10 ∷ []) 0 1) ≡ found
    (Some (0, 0))
unfolding families_of known_lines known_words next_value start_or_dead pass_from
line_feed_ends_a_line_in_reverse = refl

-- ---- the empty pattern in UTF-8 mode, over "β"

abbrev nothing : List Node
nothing = match_node 0 ∷ []

abbrev beta : List ℕ
beta = 0xCE ∷ 0xB2 ∷ []

abbrev between : Automaton → Reader
between a = record (reads a (only 255)) { between_characters = true }

search_begins_anew_inside_a_character : half_search (between (forward nothing)) (over beta 1 2) ≡ found (Some (2, 0))
unfolding families_of known_lines known_words next_value start_or_dead pass_from
search_begins_anew_inside_a_character = refl

two_passes_are_made : scan_count (between (forward nothing)) (over beta 1 2) ≡ 2
unfolding families_of known_lines known_words next_value start_or_dead pass_from
two_passes_are_made = refl

anchored_search_begins_once : half_search (between (forward nothing)) (record (over beta 1 2) { anchored = Yes }) ≡ found None
unfolding families_of known_lines known_words next_value start_or_dead pass_from
anchored_search_begins_once = refl

no_place_is_left : half_search (between (forward nothing)) (over beta 1 1) ≡ found None
unfolding families_of known_lines known_words next_value start_or_dead pass_from
no_place_is_left = refl

each_end_counts_without_utf8_mode : half_search (reads (forward nothing) (only 255)) (over beta 1 2) ≡ found (Some (1, 0))
unfolding families_of known_lines known_words next_value start_or_dead pass_from
each_end_counts_without_utf8_mode = refl

search_begins_anew_in_reverse : half_search (between (backward nothing)) (over beta 0 1) ≡ found (Some (0, 0))
unfolding families_of known_lines known_words next_value start_or_dead pass_from
search_begins_anew_in_reverse = refl

-- ---- what searches make and report

-- over one byte from offset 1, and then over no bytes from offset 2
passes_over_a_part_of_a_character : scans_of (between (forward nothing)) (over beta 1 2) ≡ (1, 1) ∷ (0, 2) ∷ []
unfolding families_of known_lines known_words next_value start_or_dead pass_from
passes_over_a_part_of_a_character = refl

done_search_makes_no_pass : scans_of (between (forward nothing)) (over beta 2 1) ≡ []
done_search_makes_no_pass = refl

-- `a` on "ab": a start, and a state after each of two bytes and after the end
states_of_a_search : made_by (reads (forward letter) no_quits) (over (97 ∷ 98 ∷ []) 0 2)
    (scans_of (reads (forward letter) no_quits) (over (97 ∷ 98 ∷ []) 0 2)) ≡ 4
unfolding families_of known_lines known_words next_value start_or_dead pass_from
states_of_a_search = refl

abbrev nothing_told : ProgressValue
nothing_told = record { searched = 0; progress = None }

-- the search goes over two bytes
bytes_of_a_search : progress_by (reads (forward letter) no_quits) (over (97 ∷ 98 ∷ []) 0 2) nothing_told ((2, 0) ∷ []) ≡ record {
  searched = 2;
  progress = None;
}
unfolding families_of known_lines known_words next_value start_or_dead pass_from
bytes_of_a_search = refl

-- an earlier search, which is still running after three bytes, ends when this one begins
bytes_of_two_searches : progress_by (reads (forward letter) no_quits) (over (97 ∷ 98 ∷ []) 0 2) (record {
  searched = 2;
  progress = Some (record { start = 7; at = 4 });
}) ((2, 0) ∷ [])
    ≡ record { searched = 7; progress = None }
unfolding families_of known_lines known_words next_value start_or_dead pass_from
bytes_of_two_searches = refl

-- in reverse through three bytes, the last two of which match: the distance from the last byte to the first
bytes_of_a_search_in_reverse : progress_by (record (reads (backward letters) no_quits) { kind = AllMatches })
    (record (over (98 ∷ 97 ∷ 97 ∷ []) 0 3) { anchored = Yes }) nothing_told ((3, 3) ∷ [])
    ≡ record { searched = 2; progress = None }
unfolding families_of known_lines known_words next_value start_or_dead pass_from
bytes_of_a_search_in_reverse = refl

-- over no bytes it reports nothing
nothing_is_told_in_reverse : progress_by (reads (backward letters) no_quits) (over [] 0 0) nothing_told ((0, 0) ∷ []) ≡ nothing_told
nothing_is_told_in_reverse = refl

quit_is_told : reported (quit 100 2) ≡ Err (Quit 100 2)
quit_is_told = refl

end_is_told : reported (found (Some (3, 0))) ≡ Ok (Some (record { pattern = 0; offset = 3 }))
end_is_told = refl
