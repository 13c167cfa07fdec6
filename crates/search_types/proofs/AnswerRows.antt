-- The definitions of modes, offsets, spans and answers at small haystacks.
use Rattle.std.proofs.Common.{◌≡◌, ℕ, zero, suc, true, false, List, [], ◌∷◌, Some, None, refl, lit≤}
use Rattle.search_types.specs.declared.anchored.Anchored.TheVariants.{No, Yes, Pattern}
use Rattle.search_types.specs.Modes.{may_start, allowed, is_supported}
use Rattle.search_types.specs.Places.{counts}
use Rattle.search_types.specs.Inputs.{IsSpanOf}
use Rattle.search_types.specs.LeftmostAnswer.{leftmost_answer}

-- the choices of b|ab, the only pattern, at the offsets of "ab", and those of b alone
abbrev alternation : ℕ → List (ℕ × ℕ)
alternation zero = (0, 2) ∷ []
alternation (suc zero) = (0, 2) ∷ []
alternation (suc (suc i)) = []

abbrev letter : ℕ → List (ℕ × ℕ)
letter zero = []
letter (suc zero) = (0, 2) ∷ []
letter (suc (suc i)) = []

-- the longer alternative starts further left, and so is found
leftmost_alternative : leftmost_answer alternation No 0 2 ≡ Some (record { pattern = 0; start = 0; end = 2 })
leftmost_alternative = refl

from_the_second_place : leftmost_answer alternation No 1 2 ≡ Some (record { pattern = 0; start = 1; end = 2 })
from_the_second_place = refl

at_the_end : leftmost_answer alternation No 2 2 ≡ None
at_the_end = refl

start_above_the_end : leftmost_answer alternation No 1 0 ≡ None
start_above_the_end = refl

-- an anchored search doesn't move on
not_anchored : leftmost_answer letter No 0 2 ≡ Some (record { pattern = 0; start = 1; end = 2 })
not_anchored = refl

anchored_in_front : leftmost_answer letter Yes 0 2 ≡ None
anchored_in_front = refl

anchored_at_it : leftmost_answer letter (Pattern 0) 1 2 ≡ Some (record { pattern = 0; start = 1; end = 2 })
anchored_at_it = refl

-- of several choices the preferred one, although the pattern's number and the end are greater
preferred : leftmost_answer (λ i. (1, 5) ∷ (0, 3) ∷ []) No 2 6 ≡ Some (record { pattern = 1; start = 2; end = 5 })
preferred = refl

starts_at_the_end : may_start No 1 3 3 ≡ true
starts_at_the_end = refl

not_behind_the_end : may_start No 1 3 4 ≡ false
not_behind_the_end = refl

not_before_the_start : may_start No 1 3 0 ≡ false
not_before_the_start = refl

anchored_start : may_start Yes 1 3 1 ≡ true
anchored_start = refl

not_behind_the_start : may_start (Pattern 4) 1 3 2 ≡ false
not_behind_the_start = refl

nowhere : may_start Yes 2 1 2 ≡ false
nowhere = refl

-- the patterns that a search of two may find
last_of_two : allowed Yes 2 1 ≡ true
last_of_two = refl

no_third : allowed No 2 2 ≡ false
no_third = refl

the_named_one : allowed (Pattern 1) 2 1 ≡ true
the_named_one = refl

not_the_other : allowed (Pattern 1) 2 0 ≡ false
not_the_other = refl

no_such_pattern : allowed (Pattern 2) 2 2 ≡ false
no_such_pattern = refl

starts_for_each : is_supported true (Pattern 1) ≡ true
starts_for_each = refl

one_start_for_all : is_supported false (Pattern 1) ≡ false
one_start_for_all = refl

-- the offsets of a letter with an accent and a mark, as three bytes
inside_the_letter : counts true (0xC3 ∷ 0xA9 ∷ 0x21 ∷ []) 1 ≡ false
inside_the_letter = refl

behind_the_letter : counts true (0xC3 ∷ 0xA9 ∷ 0x21 ∷ []) 2 ≡ true
behind_the_letter = refl

inside_where_bytes_count : counts false (0xC3 ∷ 0xA9 ∷ 0x21 ∷ []) 1 ≡ true
inside_where_bytes_count = refl

-- a search of "ab" may start one offset after its end
one_behind_the_end : IsSpanOf (97 ∷ 98 ∷ []) 3 2
one_behind_the_end = (lit≤ tt, lit≤ tt)
