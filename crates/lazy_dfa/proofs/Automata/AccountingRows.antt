-- How many bytes the caches of small automata are counted to need, calculated by hand.
use Rattle.std.proofs.Common.{◌≡◌, ℕ, true, false, List, [], ◌∷◌, ◌++◌, replicate, Some, None, refl}
use Rattle.search_types.specs.declared.match_kind.MatchKind.TheVariants.{LeftmostFirst}
use Rattle.look_core.specs.Terminators.{one_of}
use Rattle.nfa_core.specs.Nfa.{Automaton, byte_range, binary_union, match_node}
use Rattle.nfa_core.specs.NfaParts.{always_matching, never_matching}
use Rattle.determinize_core.specs.States.{StateValue}
use Rattle.determinize_core.specs.LookBehind.{families_of}
use Rattle.determinize_core.specs.KnownBefore.{known_lines, known_words}
use Rattle.determinize_core.specs.Starts.{start_of}
use Rattle.determinize_core.specs.Steps.{start_value, step_value}
use Rattle.lazy_dfa.specs.Accounting.{Measures, measures_of, fresh_usage, least_capacity, effective_capacity, measured_usage}

-- all bytes are in one class
abbrev one_class : List ℕ
one_class = replicate 256 0

-- no pattern at all: 20 + 18 + 56 + 72 + 47, plus twice 62
abbrev never : Measures
never = measures_of never_matching.automaton one_class false

never_fresh : fresh_usage never ≡ 213
never_fresh = refl

never_least : least_capacity never ≡ 337
never_least = refl

-- the pattern that matches everywhere: 60 + 32 + 56 + 72 + 47, plus twice 76
abbrev always : Measures
always = measures_of always_matching.automaton one_class false

always_fresh : fresh_usage always ≡ 267
always_fresh = refl

always_least : least_capacity always ≡ 419
always_least = refl

-- "a", anywhere
abbrev letter : Automaton
letter = record {
  states = binary_union 2 1 ∷ byte_range 0 255 0 ∷ byte_range 97 97 3 ∷ match_node 0 ∷ [];
  start_anchored = 2;
  start_unanchored = 0;
  start_pattern = 2 ∷ [];
  reverse = false;
}

-- the bytes below "a", "a" itself, and the bytes above it
abbrev letter_classes : List ℕ
letter_classes = replicate 97 0 ++ 1 ∷ replicate 158 2

-- 80 + 37 + 56 + 96 + 47, plus twice 89
abbrev measures : Measures
measures = measures_of letter letter_classes false

letter_fresh : fresh_usage measures ≡ 316
letter_fresh = refl

letter_least : least_capacity measures ≡ 494
letter_least = refl

-- if a search may name its pattern, there are seven more starts
letter_least_with_named_patterns : least_capacity (measures_of letter letter_classes true) ≡ 522
letter_least_with_named_patterns = refl

capacity_is_raised : effective_capacity measures true 0 ≡ 494
capacity_is_raised = refl

capacity_is_kept : effective_capacity measures true 600 ≡ 600
capacity_is_kept = refl

-- the states of a search for "a" over "ab"
abbrev started : StateValue
started = start_value letter (one_of 10) (start_of (one_of 10) None) 0

abbrev behind_a : StateValue
behind_a = step_value letter (one_of 10) LeftmostFirst started (Some 97)

abbrev behind_b : StateValue
behind_b = step_value letter (one_of 10) LeftmostFirst behind_a (Some 98)

usage_with_start : measured_usage measures (started ∷ []) ≡ 380
unfolding families_of known_lines known_words
usage_with_start = refl

usage_behind_a : measured_usage measures (started ∷ behind_a ∷ []) ≡ 445
unfolding families_of known_lines known_words
usage_behind_a = refl

usage_behind_b : measured_usage measures (started ∷ behind_a ∷ behind_b ∷ []) ≡ 506
unfolding families_of known_lines known_words
usage_behind_b = refl
