-- The first line feed of a haystack, after bytes that are none.
use Rattle.std.proofs.Common.{◌≡◌, ◌≤◌, ◌<◌, ◌*◌, ◌^◌, inl, inr, ℕ, zero, suc, ◌+◌, ◌-◌, Bool, true, false, not, cond, List, [], ◌∷◌}
use Rattle.std.proofs.Common.{length, drop, get_or}
use Rattle.std.proofs.Common.{slice_get, map, nat_lt}
use Rattle.std.proofs.Common.{Some, None, refl, sym, ap, ◌∙◌, subst, arith, ⊎_elim, length-drop}
use Rattle.std.proofs.lemmas.Bool.{cases_lt, ltb-true, lt-ltb, eq-eqb, cond-true, true≢false}
use Rattle.std.proofs.lemmas.List.Sums.{prefix_len_is}
use Rattle.std.proofs.lemmas.Option.{none-some, same_Some}
use Rattle.std.proofs.lemmas.Simd.{trailing_mask_l, length-chunk, run_in_chunk_stops, run_in_chunk_fails, none_from_empty_mask}
use Rattle.std.proofs.lemmas.Simd.{get_or-chunk}
use Rattle.std.proofs.Math.Nat.{pow-suc}
use Rattle.std.proofs.Math.Pow.{pow_mono}
use Rattle.std.proofs.lemmas.Nat.{leading_length}
use Rattle.std.specs.Int.Count.{count_leading_zeros, count_trailing_zeros}
use Rattle.std.specs.List.{position, position_or_len, prefix_len}
use Rattle.std.specs.Simd.Lanes.{chunk, mask_l}
use Rattle.line_trees.specs.LineTrees.{HasNoFeedFrom}
use Rattle.line_search.proofs.FeedPlaceLemmas.{is_feed, first_at, some_at}

-- none of the first bytes is a line feed
abbrev pub NoneBefore : List ℕ → ℕ → Type 0
NoneBefore text n = (k : ℕ) → k < n → is_feed (get_or text k 0) ≡ false

-- after them the first one is looked for
passed : (text : List ℕ) (n : ℕ) → n ≤ length text → NoneBefore text n →
    position_or_len is_feed text ≡ n + position_or_len is_feed (drop n text)
passed text zero room none = omega arith
passed [] (suc n) room none = absurd (omega (arith, room))
passed (x ∷ xs) (suc n) room none =
    let rest = passed xs n (omega (arith, room)) (λ k less. none (suc k) (omega (arith, less))) in
    let first = first_at x xs false (none 0 (omega arith)) in omega (arith, first, rest)

at_place : (text : List ℕ) (n : ℕ) → position_or_len is_feed text ≡ n → n < length text → position is_feed text ≡ Some n
at_place text n e room =
    ap (λ k. cond (nat_lt k (length text)) (Some k) None) e ∙ cond-true (nat_lt n (length text)) (Some n) None (lt-ltb n (length text) room)

-- the first one of what is left is the first one of all
pub found_behind : (text : List ℕ) (n k : ℕ) → n ≤ length text → NoneBefore text n → position is_feed (drop n text) ≡ Some k →
    position is_feed text ≡ Some (n + k)
found_behind text n k room none e =
    let rest = drop n text in
    let at = some_at (nat_lt (position_or_len is_feed rest) (length rest)) (position_or_len is_feed rest) k e in
    let within = ltb-true (position_or_len is_feed rest) (length rest) at.0 in
    at_place text (n + k) (passed text n room none ∙ ap (λ j. n + j) at.1) (omega (arith, at.1, within, length-drop n text))

-- if none is left there is none at all
none_by : (text rest : List ℕ) (n : ℕ) → position_or_len is_feed text ≡ n + position_or_len is_feed rest → length text ≡ n + length rest →
    (v : Bool) → nat_lt (position_or_len is_feed rest) (length rest) ≡ v →
    cond v (Some (position_or_len is_feed rest)) None ≡ None → position is_feed text ≡ None
none_by text rest n first long true e none = absurd (none-some (position_or_len is_feed rest) (sym none))
none_by text rest n first long false e none =
    past (nat_lt (position_or_len is_feed text) (length text)) refl
  where
    past : (w : Bool) → nat_lt (position_or_len is_feed text) (length text) ≡ w → cond w (Some (position_or_len is_feed text)) None ≡ None
    past true is =
        let less = ltb-true (position_or_len is_feed text) (length text) is in
        absurd (true≢false (sym (lt-ltb (position_or_len is_feed rest) (length rest) (omega (arith, less, first, long))) ∙ e))
    past false is = refl

pub none_left : (text : List ℕ) (n : ℕ) → n ≤ length text → NoneBefore text n → position is_feed (drop n text) ≡ None →
    position is_feed text ≡ None
none_left text n room none e =
    let rest = drop n text in
    none_by text rest n (passed text n room none) (omega (arith, room, length-drop n text))
    (nat_lt (position_or_len is_feed rest) (length rest)) refl e

-- a bit stands for one of the bytes
some_within : (bytes : List ℕ) → 0 < mask_l (map is_feed bytes) → prefix_len (λ x. not (is_feed x)) bytes < length bytes
some_within [] some = absurd (omega (arith, some))
some_within (x ∷ xs) some = by (is_feed x) some (some_within xs)
  where
    by : (v : Bool) → 0 < cond v 1 0 + 2 * mask_l (map is_feed xs) →
        (0 < mask_l (map is_feed xs) → prefix_len (λ y. not (is_feed y)) xs < length xs) →
        cond (not v) (1 + prefix_len (λ y. not (is_feed y)) xs) 0 < length (x ∷ xs)
    by true some rest = omega arith
    by false some rest = let less = rest (omega (arith, some)) in omega (arith, less)

-- what the bits of 32 bytes from an offset on say
module _ (text : List ℕ) (at : ℕ) (room : at + 32 ≤ length text) (bits : ℕ) (reported : bits ≡ mask_l (map is_feed (chunk at 32 text)))
    (before : NoneBefore text at) where
  joined : (n : ℕ) → ((k : ℕ) → at ≤ k → k < n → is_feed (get_or text k 0) ≡ false) → NoneBefore text n
  joined n behind k less = ⊎_elim (λ low. before k low) (λ high. behind k high less) (cases_lt k at)

  pub passed_over : bits ≡ 0 → NoneBefore text (at + 32)
  passed_over none = joined (at + 32) (none_from_empty_mask is_feed text at 32 0 room (sym reported ∙ none))

  pub found_within : 0 < bits → position is_feed text ≡ Some (at + count_trailing_zeros 64 bits)
  found_within some =
      let bytes = chunk at 32 text in
      let long = length-chunk at 32 text room in
      let first = prefix_len (λ x. not (is_feed x)) bytes in
      let has : 0 < mask_l (map is_feed bytes) = subst (λ n. 0 < n) reported some in
      let counted : count_trailing_zeros 64 bits ≡ first =
      ap (count_trailing_zeros 64) reported ∙ trailing_mask_l is_feed 64 bytes (omega (arith, long)) has in
      let within = some_within bytes has in
      let none = joined (at + first) (run_in_chunk_fails is_feed text at 32 first 0 room refl) in
      let is = run_in_chunk_stops is_feed text at 32 first 0 room refl (omega (arith, within, long)) in
      at_place text (at + first)
      (prefix_len_is (λ x. not (is_feed x)) text (at + first) 0 (omega (arith, room, within, long))
      (λ k less. ap not (none k less)) (λ _. ap not is))
      (omega (arith, room, within, long))
      ∙ ap (λ n. Some (at + n)) (sym counted)

-- ---- how far back there is none
got : (xs : List ℕ) (i b : ℕ) → slice_get xs i ≡ Some b → get_or xs i 0 ≡ b
got [] i b e = absurd (none-some b e)
got (x ∷ xs) zero b e = same_Some x b e
got (x ∷ xs) (suc i) b e = got xs i b e

-- the bits of bytes are below as high a power of two as there are bytes
few_marks : (bytes : List ℕ) → mask_l (map is_feed bytes) < 2 ^ length bytes
few_marks [] = omega arith
few_marks (x ∷ xs) = by (is_feed x) (few_marks xs)
  where
    by : (v : Bool) → mask_l (map is_feed xs) < 2 ^ length xs → cond v 1 0 + 2 * mask_l (map is_feed xs) < 2 ^ suc (length xs)
    by true few = omega (arith, few, pow-suc 2 (length xs))
    by false few = omega (arith, few, pow-suc 2 (length xs))

-- if they are below a power of two, none is a line feed from its exponent on
high_marks : (bytes : List ℕ) (m : ℕ) → mask_l (map is_feed bytes) < 2 ^ m → (k : ℕ) → m ≤ k → k < length bytes →
    is_feed (get_or bytes k 0) ≡ false
high_marks [] m low k from within = absurd (omega (arith, within))
high_marks (x ∷ xs) zero low zero from within = by (is_feed x) low
  where
    by : (v : Bool) → cond v 1 0 + 2 * mask_l (map is_feed xs) < 1 → v ≡ false
    by true low = absurd (omega (arith, low))
    by false low = refl
high_marks (x ∷ xs) zero low (suc k) from within = high_marks xs zero (omega (arith, low)) k (omega arith) (omega (arith, within))
high_marks (x ∷ xs) (suc m) low zero from within = absurd (omega (arith, from))
high_marks (x ∷ xs) (suc m) low (suc k) from within =
    let less : cond (is_feed x) 1 0 + 2 * mask_l (map is_feed xs) < 2 ^ suc m = low in
    high_marks xs m (omega (arith, less, pow-suc 2 m)) k (omega (arith, from)) (omega (arith, within))

-- after the highest bit of 32 bytes from an offset on there is no line feed
module _ (text : List ℕ) (at bits : ℕ) (room : at + 32 ≤ length text) (reported : bits ≡ mask_l (map is_feed (chunk at 32 text))) where
  long : length (chunk at 32 text) ≡ 32
  long = length-chunk at 32 text room

  small : bits < 2 ^ 32
  small = subst (λ n. n < 2 ^ 32) (sym reported)
      (subst (λ n. mask_l (map is_feed (chunk at 32 text)) < 2 ^ n) long (few_marks (chunk at 32 text)))

  top : (m : ℕ) × (count_leading_zeros 64 bits + m ≡ 64) × (bits < 2 ^ m) × (2 ^ m ≤ 2 * bits + 1)
  top = leading_length 64 bits (omega (arith, small))

  pub top_within : 64 - count_leading_zeros 64 bits ≤ 32
  top_within = elim (cases_lt 32 (64 - count_leading_zeros 64 bits)) [
    | inl high ↦ absurd (omega (arith, small, top.3, pow_mono {i = 33} {j = top.0} (omega (arith, high, top.1))))
    | inr low ↦ low
  ]

  pub none_behind : HasNoFeedFrom text (at + (64 - count_leading_zeros 64 bits)) (at + 32)
  none_behind i low high is =
      let m : 64 - count_leading_zeros 64 bits ≡ top.0 = omega (arith, top.1) in
      let off : at + (i - at) ≡ i = omega (arith, low) in
      let none = high_marks (chunk at 32 text) top.0 (subst (λ n. n < 2 ^ top.0) reported top.2) (i - at) (omega (arith, m, low))
      (omega (arith, long, low, high)) in
      absurd (true≢false (sym (eq-eqb (get_or text i 0) 10 (got text i 10 is))
      ∙ sym (ap (λ k. is_feed (get_or text k 0)) off) ∙ sym (ap is_feed (get_or-chunk at 32 text (i - at) 0 (omega (arith, low, high))))
      ∙ none))
