-- Steps of a small automaton, worked out by hand.
use Rattle.std.proofs.Common.{◌≡◌, true, false, [], ◌∷◌, refl}
use Rattle.look_core.specs.declared.look.Look.TheVariants.{StartCRLF, WordAscii, WordEndAscii}
use Rattle.search_types.specs.declared.match_kind.MatchKind.TheVariants.{LeftmostFirst}
use Rattle.look_core.specs.Terminators.{one_of}
use Rattle.nfa_core.specs.Nfa.{Automaton, byte_range, binary_union, look_node, match_node}
use Rattle.determinize_core.specs.LookBehind.{families_of}
use Rattle.determinize_core.specs.KnownBefore.{known_words, known_lines}
use Rattle.determinize_core.specs.StateBytes.{encoded}
use Rattle.determinize_core.specs.Steps.{value_after}

-- an automaton that finds the byte 0x61
abbrev one_letter : Automaton
one_letter = record {
  states = binary_union 2 1 ∷ byte_range 0 255 0 ∷ byte_range 97 97 3 ∷ match_node 0 ∷ [];
  start_anchored = 2;
  start_unanchored = 0;
  start_pattern = 2 ∷ [];
  reverse = false;
}

at_start : encoded (value_after one_letter (one_of 10) LeftmostFirst (97 ∷ 98 ∷ []) 0 0 0) ≡ 0 ∷ 0 ∷ 0 ∷ 0 ∷ 0 ∷ 0 ∷ 0 ∷ 0 ∷ 0 ∷ 0 ∷ 4 ∷ 1 ∷
    []
unfolding families_of known_words known_lines
at_start = refl

behind_letter : encoded (value_after one_letter (one_of 10) LeftmostFirst (97 ∷ 98 ∷ []) 0 0 1) ≡
    0 ∷ 0 ∷ 0 ∷ 0 ∷ 0 ∷ 0 ∷ 0 ∷ 0 ∷ 0 ∷ 6 ∷ 5 ∷
    4 ∷ 1 ∷ []
unfolding families_of known_words known_lines
behind_letter = refl

behind_other : encoded (value_after one_letter (one_of 10) LeftmostFirst (97 ∷ 98 ∷ []) 0 0 2) ≡ 1 ∷ 0 ∷ 0 ∷ 0 ∷ 0 ∷ 0 ∷ 0 ∷ 0 ∷ 0 ∷ []
unfolding families_of known_words known_lines
behind_other = refl

behind_end : encoded (value_after one_letter (one_of 10) LeftmostFirst (97 ∷ 98 ∷ []) 0 0 3) ≡ 0 ∷ 0 ∷ 0 ∷ 0 ∷ 0 ∷ 0 ∷ 0 ∷ 0 ∷ 0 ∷ []
unfolding families_of known_words known_lines
behind_end = refl

-- an automaton that matches at the start of a line, with lines ended by CRLF, by a line feed or by a carriage return
abbrev line_starts : Automaton
line_starts = record {
  states = look_node StartCRLF 1 ∷ match_node 0 ∷ [];
  start_anchored = 0;
  start_unanchored = 0;
  start_pattern = 0 ∷ [];
  reverse = false;
}

inside_crlf : (value_after line_starts (one_of 10) LeftmostFirst (13 ∷ 10 ∷ []) 1 0 1).matches ≡ []
unfolding families_of known_words known_lines
inside_crlf = refl

behind_return : (value_after line_starts (one_of 10) LeftmostFirst (13 ∷ 97 ∷ []) 1 0 1).matches ≡ 0 ∷ []
unfolding families_of known_words known_lines
behind_return = refl

behind_feed : (value_after line_starts (one_of 10) LeftmostFirst (10 ∷ 97 ∷ []) 1 0 1).matches ≡ 0 ∷ []
unfolding families_of known_words known_lines
behind_feed = refl

behind_all : (value_after line_starts (one_of 10) LeftmostFirst (13 ∷ []) 1 0 1).matches ≡ 0 ∷ []
unfolding families_of known_words known_lines
behind_all = refl

-- that automaton in reverse, where the look stands for its reverse: the end of a line
abbrev line_ends : Automaton
line_ends = record line_starts { reverse = true }

before_crlf : (value_after line_ends (one_of 10) LeftmostFirst (97 ∷ 13 ∷ 10 ∷ []) 1 0 1).matches ≡ 0 ∷ []
unfolding families_of known_words known_lines
before_crlf = refl

in_crlf : (value_after line_ends (one_of 10) LeftmostFirst (97 ∷ 13 ∷ 10 ∷ []) 2 0 1).matches ≡ []
unfolding families_of known_words known_lines
in_crlf = refl

before_feed : (value_after line_ends (one_of 10) LeftmostFirst (97 ∷ 97 ∷ 10 ∷ []) 2 0 1).matches ≡ 0 ∷ []
unfolding families_of known_words known_lines
before_feed = refl

-- an automaton for the start of a word, its first letter, and the end of the word
abbrev words : Automaton
words = record {
  states = look_node WordAscii 1 ∷ byte_range 97 122 2 ∷ look_node WordEndAscii 3 ∷ match_node 7 ∷ [];
  start_anchored = 0;
  start_unanchored = 0;
  start_pattern = 0 ∷ [];
  reverse = false;
}

one_letter_word : (value_after words (one_of 10) LeftmostFirst (45 ∷ 97 ∷ 45 ∷ []) 1 0 2).matches ≡ 7 ∷ []
unfolding families_of known_words known_lines
one_letter_word = refl

longer_word : (value_after words (one_of 10) LeftmostFirst (45 ∷ 97 ∷ 98 ∷ []) 1 0 2).matches ≡ []
unfolding families_of known_words known_lines
longer_word = refl

inside_word : (value_after words (one_of 10) LeftmostFirst (98 ∷ 97 ∷ 45 ∷ []) 1 0 2).matches ≡ []
unfolding families_of known_words known_lines
inside_word = refl
