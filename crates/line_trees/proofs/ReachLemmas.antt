-- A character that ends inside a line doesn't reach over the line's start. In front of the line is an ASCII byte, or nothing, and in a
-- spelling of more than one byte no byte is ASCII. So the line's bytes alone determine the character before an offset.
use Rattle.std.proofs.Common.{◌≡◌, ℕ, ◌+◌, ◌-◌, ◌<◌, ◌≤◌, ◌⊎◌, inl, inr, Bool, false, cond, ◌&&◌, leb, ltb, List, length, get_or}
use Rattle.std.proofs.Common.{Option, Some, None, sym, ap, ap₂, subst, ◌∙◌, arith}
use Rattle.std.proofs.lemmas.Bool.{cases_lt, cond-true, cond-false, lt-leb, le-leb, lt-ltb}
use Rattle.std.proofs.lemmas.Bool.Decides.{nat_tests}
use Rattle.std.specs.Int.{is_in_range}
use Rattle.std.specs.Option.{option_or}
use Rattle.search_core.specs.Utf8.{scalar_of_two, scalar_of_three, scalar_of_four, second_of_three, second_of_four}
use Rattle.search_core.specs.Characters.{one_byte, two_bytes, three_bytes, four_bytes, ending_at, character_before}

-- ---- what bytes of each length spell, as a value of the bytes alone
abbrev two_value : ℕ → ℕ → Option ℕ
two_value a b = cond (is_in_range 0xC2 0xDF a && is_in_range 0x80 0xBF b) (Some (scalar_of_two a b)) None

abbrev three_value : ℕ → ℕ → ℕ → Option ℕ
three_value a b d = cond (second_of_three a b && is_in_range 0x80 0xBF d) (Some (scalar_of_three a b d)) None

abbrev four_value : ℕ → ℕ → ℕ → ℕ → Option ℕ
four_value a b d e = cond (second_of_four a b && is_in_range 0x80 0xBF d && is_in_range 0x80 0xBF e) (Some (scalar_of_four a b d e)) None

-- nothing, if a byte before the last is ASCII
two_fail : (a b : ℕ) → a < 0x80 → is_in_range 0xC2 0xDF a && is_in_range 0x80 0xBF b ≡ false
two_fail a b low = grind (arith, nat_tests)

three_fail : (a b d : ℕ) → (a < 0x80) ⊎ (b < 0x80) → second_of_three a b && is_in_range 0x80 0xBF d ≡ false
three_fail a b d low = grind (arith, nat_tests)

four_fail : (a b d e : ℕ) → (a < 0x80) ⊎ ((b < 0x80) ⊎ (d < 0x80)) →
    second_of_four a b && is_in_range 0x80 0xBF d && is_in_range 0x80 0xBF e ≡ false
four_fail a b d e low = grind (arith, nat_tests)

same_one : (p q : Bool) (a b : ℕ) → p ≡ q → a ≡ b → cond (p && leb a 0x7F) (Some a) None ≡ cond (q && leb b 0x7F) (Some b) None
same_one p q a b s t = rw (s, t)

same_three : (a b d x y z : ℕ) → a ≡ x → b ≡ y → d ≡ z → three_value a b d ≡ three_value x y z
same_three a b d x y z p q r = rw (p, q, r)

same_four : (a b d e x y z w : ℕ) → a ≡ x → b ≡ y → d ≡ z → e ≡ w → four_value a b d e ≡ four_value x y z w
same_four a b d e x y z w p q r s = rw (p, q, r, s)

first_same : (a b d e x y z w : Option ℕ) → a ≡ x → b ≡ y → d ≡ z → e ≡ w →
    option_or a (option_or b (option_or d e)) ≡ option_or x (option_or y (option_or z w))
first_same a b d e x y z w p q r s = rw (p, q, r, s)

-- what ends at k is read from k - n on
ends_none : (n : ℕ) (f : List ℕ → ℕ → Option ℕ) (h : List ℕ) (k : ℕ) → (n ≤ k → f h (k - n) ≡ None) → ending_at n f h k ≡ None
ends_none n f h k none = elim (cases_lt k n) [
  | inl l ↦ cond-false _ _ _ (lt-leb n k l)
  | inr l ↦ cond-true _ _ _ (le-leb n k l) ∙ none l
]

-- ---- two haystacks with the same bytes before an offset, up to an offset where the line starts
module _ (line h : List ℕ) (p i : ℕ) (above : 0 < i) (in_line : i ≤ length line) (in_text : p + i ≤ length h)
    (same : (j : ℕ) → j < i → get_or line j 0 ≡ get_or h (p + j) 0) (low : 0 < p → get_or h (p - 1) 0 < 0x80) where
  at : (j k : ℕ) → j < i → k ≡ p + j → get_or line j 0 ≡ get_or h k 0
  at j k l e = same j l ∙ ap (λ (m : ℕ). get_or h m 0) (sym e)

  low_at : (k : ℕ) → 0 < p → k ≡ p - 1 → get_or h k 0 < 0x80
  low_at k some e = subst (λ (m : ℕ). get_or h m 0 < 0x80) (sym e) (low some)

  -- a length of spelling is read in both haystacks alike, or else it reaches over the line's start and fits in neither
  ends_same : (n : ℕ) (f : List ℕ → ℕ → Option ℕ) → (n ≤ i → f line (i - n) ≡ f h (p + i - n)) →
      (i < n → n ≤ p + i → f h (p + i - n) ≡ None) → ending_at n f line i ≡ ending_at n f h (p + i)
  ends_same n f alike none = elim (cases_lt i n) [
    | inl more ↦ cond-false _ _ _ (lt-leb n i more) ∙ sym (ends_none n f h (p + i) (none more))
    | inr enough ↦
        cond-true _ _ _ (le-leb n i enough) ∙ alike enough ∙ sym (cond-true _ _ _ (le-leb n (p + i) (omega arith)))
  ]

  one_ends : ending_at 1 one_byte line i ≡ ending_at 1 one_byte h (p + i)
  one_ends =
      ends_same 1 one_byte
      (λ l. same_one (ltb (i - 1) (length line)) (ltb (p + i - 1) (length h)) (get_or line (i - 1) 0) (get_or h (p + i - 1) 0)
      (lt-ltb (i - 1) (length line) (omega arith) ∙ sym (lt-ltb (p + i - 1) (length h) (omega arith)))
      (at (i - 1) (p + i - 1) (omega arith) (omega arith)))
      (λ more l. absurd (omega arith))

  two_ends : ending_at 2 two_bytes line i ≡ ending_at 2 two_bytes h (p + i)
  two_ends =
      ends_same 2 two_bytes
      (λ l. ap₂ two_value (at (i - 2) (p + i - 2) (omega arith) (omega arith))
      (at (i - 2 + 1) (p + i - 2 + 1) (omega arith) (omega arith)))
      (λ more l. cond-false _ _ _
      (two_fail (get_or h (p + i - 2) 0) (get_or h (p + i - 2 + 1) 0) (low_at (p + i - 2) (omega arith) (omega arith))))

  three_low : i < 3 → 3 ≤ p + i → (get_or h (p + i - 3) 0 < 0x80) ⊎ (get_or h (p + i - 3 + 1) 0 < 0x80)
  three_low more l = elim (cases_lt i 2) [
    | inl one ↦ inr (low_at (p + i - 3 + 1) (omega arith) (omega arith))
    | inr two ↦ inl (low_at (p + i - 3) (omega arith) (omega arith))
  ]

  three_ends : ending_at 3 three_bytes line i ≡ ending_at 3 three_bytes h (p + i)
  three_ends =
      ends_same 3 three_bytes
      (λ l. same_three (get_or line (i - 3) 0) (get_or line (i - 3 + 1) 0) (get_or line (i - 3 + 2) 0)
      (get_or h (p + i - 3) 0) (get_or h (p + i - 3 + 1) 0) (get_or h (p + i - 3 + 2) 0)
      (at (i - 3) (p + i - 3) (omega arith) (omega arith)) (at (i - 3 + 1) (p + i - 3 + 1) (omega arith) (omega arith))
      (at (i - 3 + 2) (p + i - 3 + 2) (omega arith) (omega arith)))
      (λ more l. cond-false _ _ _
      (three_fail (get_or h (p + i - 3) 0) (get_or h (p + i - 3 + 1) 0) (get_or h (p + i - 3 + 2) 0) (three_low more l)))

  four_low : i < 4 → 4 ≤ p + i →
      (get_or h (p + i - 4) 0 < 0x80) ⊎ ((get_or h (p + i - 4 + 1) 0 < 0x80) ⊎ (get_or h (p + i - 4 + 2) 0 < 0x80))
  four_low more l = elim (cases_lt i 3) [
    | inl few ↦ elim (cases_lt i 2) [
      | inl one ↦ inr (inr (low_at (p + i - 4 + 2) (omega arith) (omega arith)))
      | inr two ↦ inr (inl (low_at (p + i - 4 + 1) (omega arith) (omega arith)))
    ]
    | inr three ↦ inl (low_at (p + i - 4) (omega arith) (omega arith))
  ]

  four_ends : ending_at 4 four_bytes line i ≡ ending_at 4 four_bytes h (p + i)
  four_ends =
      ends_same 4 four_bytes
      (λ l. same_four (get_or line (i - 4) 0) (get_or line (i - 4 + 1) 0) (get_or line (i - 4 + 2) 0) (get_or line (i - 4 + 3) 0)
      (get_or h (p + i - 4) 0) (get_or h (p + i - 4 + 1) 0) (get_or h (p + i - 4 + 2) 0) (get_or h (p + i - 4 + 3) 0)
      (at (i - 4) (p + i - 4) (omega arith) (omega arith)) (at (i - 4 + 1) (p + i - 4 + 1) (omega arith) (omega arith))
      (at (i - 4 + 2) (p + i - 4 + 2) (omega arith) (omega arith)) (at (i - 4 + 3) (p + i - 4 + 3) (omega arith) (omega arith)))
      (λ more l. cond-false _ _ _
      (four_fail (get_or h (p + i - 4) 0) (get_or h (p + i - 4 + 1) 0) (get_or h (p + i - 4 + 2) 0) (get_or h (p + i - 4 + 3) 0)
      (four_low more l)))

  pub character_reaches : character_before line i ≡ character_before h (p + i)
  character_reaches = first_same _ _ _ _ _ _ _ _ one_ends two_ends three_ends four_ends
