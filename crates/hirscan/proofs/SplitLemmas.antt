-- The words of a line, taken off one after the other.
use Rattle.std.proofs.Common.{◌≡◌, ℕ, ◌+◌, ◌-◌, ◌≤◌, ◌==◌, Bool, false, List, [], ◌∷◌, length, take, drop, Some, None, inl, inr, nat_lt}
use Rattle.std.proofs.Common.{refl, ◌∙◌, ap, arith}
use Rattle.std.specs.List.{position, position_or_len, onto_first}
use Rattle.std.proofs.lemmas.Bool.{cases_Bool, ltb-true, ltb-false}
use Rattle.std.proofs.lemmas.List.{take_rest}
use Rattle.std.proofs.lemmas.List.Splits.{slice_split_first, slice_split-cons_no}
use Rattle.hirscan.specs.Words.{words}

abbrev is_space : ℕ → Bool
is_space b = b == 32

pub first_of_more : (line : List ℕ) (n : ℕ) → position (λ b. b == 32) line ≡ Some n
    → words line ≡ take n line ∷ words (take (length line - (n + 1)) (drop (n + 1) line))
first_of_more line n h =
    elim (cases_Bool (nat_lt (position_or_len is_space line) (length line))) [
      | inl t ↦
          let e : position_or_len is_space line ≡ n = let f = rw t at h in cc in
          rw (take_rest line (n + 1)) (rw e at (slice_split_first is_space line 0 (ltb-true _ _ t)))
      | inr f ↦ absurd (let g = rw f at h in cc)
    ]

later_space : (x : ℕ) (xs : List ℕ) → length (x ∷ xs) ≤ position_or_len is_space (x ∷ xs)
    → (is_space x ≡ false) × (length xs ≤ position_or_len is_space xs)
later_space x xs h =
    elim (cases_Bool (is_space x)) [
      | inl t ↦ absurd (let g : length (x ∷ xs) ≤ 0 = rw t at h in omega arith)
      | inr f ↦ (f, let g : length (x ∷ xs) ≤ 1 + position_or_len is_space xs = rw f at h in omega arith)
    ]

no_space : (line : List ℕ) → length line ≤ position_or_len is_space line → words line ≡ line ∷ []
no_space [] h = refl
no_space (x ∷ xs) h =
    let p = later_space x xs h in
    slice_split-cons_no is_space x xs p.0 ∙ ap (onto_first x) (no_space xs p.1)

pub first_alone : (line : List ℕ) → position (λ b. b == 32) line ≡ None → words line ≡ line ∷ []
first_alone line h =
    elim (cases_Bool (nat_lt (position_or_len is_space line) (length line))) [
      | inl t ↦ absurd (let g = rw t at h in cc)
      | inr f ↦ no_space line (ltb-false _ _ f)
    ]
