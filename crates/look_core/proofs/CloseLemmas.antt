-- Haystacks that differ in ASCII bytes alone: the characters of more bytes are the same.
use Rattle.std.proofs.Common.{◌≡◌, ℕ, zero, suc, ◌+◌, ◌-◌, ◌<◌, ◌⊎◌, inl, inr, false, Bool, List, length, get_or, Option, Some, None, refl}
use Rattle.std.proofs.Common.{sym, ap, ap₂, ◌∙◌, arith, cond, ◌&&◌, leb, ltb}
use Rattle.std.proofs.lemmas.Bool.{cond-false, cond-true, cases_lt, le-leb, and_from, lt-ltb}
use Rattle.std.proofs.lemmas.List.{get_or_past}
use Rattle.std.proofs.lemmas.Option.{slice_get-get_or, slice_get_past}
use Rattle.std.specs.Int.{is_in_range}
use Rattle.std.specs.Option.{option_or}
use Rattle.search_core.specs.Text.{byte_at}
use Rattle.search_core.specs.Utf8.{scalar_of_two, scalar_of_three, scalar_of_four, second_of_three, second_of_four, is_word_byte}
use Rattle.search_core.specs.Characters.{one_byte, two_bytes, three_bytes, four_bytes, ending_at}
use Rattle.look_core.specs.Looks.{word_if, character_side, by_characters, IsWordSet}
use Rattle.look_core.proofs.ReadLemmas.{two_lead, two_next, three_lead, three_next, three_last, four_lead, four_next, four_third, four_last}

-- one byte, or two ASCII bytes
abbrev pub AreClose : ℕ → ℕ → Type 0
AreClose a b = (a ≡ b) ⊎ ((a < 128) × (b < 128))

-- ---- what more bytes than one spell
abbrev of_two : ℕ → ℕ → Option ℕ
of_two a b = cond (is_in_range 0xC2 0xDF a && is_in_range 0x80 0xBF b) (Some (scalar_of_two a b)) None

abbrev of_three : ℕ → ℕ → ℕ → Option ℕ
of_three a b d = cond (second_of_three a b && is_in_range 0x80 0xBF d) (Some (scalar_of_three a b d)) None

abbrev of_four : ℕ → ℕ → ℕ → ℕ → Option ℕ
of_four a b d e = cond (second_of_four a b && is_in_range 0x80 0xBF d && is_in_range 0x80 0xBF e) (Some (scalar_of_four a b d e)) None

neither : (s t : Bool) (x y : Option ℕ) → s ≡ false → t ≡ false → cond s x None ≡ cond t y None
neither s t x y p q = cond-false s x None p ∙ sym (cond-false t y None q)

same_two : (a b c d : ℕ) → AreClose a c → AreClose b d → of_two a b ≡ of_two c d
same_two a b c d (inr low) q = neither _ _ _ _ (two_lead a b (inl (omega arith))) (two_lead c d (inl (omega arith)))
same_two a b c d (inl e) (inr low) = neither _ _ _ _ (two_next a b (inl low.0)) (two_next c d (inl low.1))
same_two a b c d (inl e) (inl f) = ap₂ of_two e f

same_three : (a b d x y z : ℕ) → AreClose a x → AreClose b y → AreClose d z → of_three a b d ≡ of_three x y z
same_three a b d x y z (inr low) q r = neither _ _ _ _ (three_lead a b d (inl (omega arith))) (three_lead x y z (inl (omega arith)))
same_three a b d x y z (inl e) (inr low) r = neither _ _ _ _ (three_next a b d (inl low.0)) (three_next x y z (inl low.1))
same_three a b d x y z (inl e) (inl f) (inr low) = neither _ _ _ _ (three_last a b d (inl low.0)) (three_last x y z (inl low.1))
same_three a b d x y z (inl e) (inl f) (inl g) = ap₂ (λ (p q : ℕ). of_three p q d) e f ∙ ap (of_three x y) g

same_four : (a b d e x y z w : ℕ) → AreClose a x → AreClose b y → AreClose d z → AreClose e w → of_four a b d e ≡ of_four x y z w
same_four a b d e x y z w (inr low) q r s = neither _ _ _ _ (four_lead a b d e (inl (omega arith))) (four_lead x y z w (inl (omega arith)))
same_four a b d e x y z w (inl f) (inr low) r s = neither _ _ _ _ (four_next a b d e (inl low.0)) (four_next x y z w (inl low.1))
same_four a b d e x y z w (inl f) (inl g) (inr low) s = neither _ _ _ _ (four_third a b d e (inl low.0)) (four_third x y z w (inl low.1))
same_four a b d e x y z w (inl f) (inl g) (inl h) (inr low) = neither _ _ _ _ (four_last a b d e (inl low.0))
    (four_last x y z w (inl low.1))
same_four a b d e x y z w (inl f) (inl g) (inl h) (inl i) = ap₂ (λ (p q : ℕ). of_four p q d e) f g ∙ ap₂ (λ (p q : ℕ). of_four x y p q) h i

-- ---- one byte
one_low : (h : List ℕ) (k : ℕ) → k < length h → get_or h k 0 < 128 → one_byte h k ≡ Some (get_or h k 0)
one_low h k l low = cond-true _ _ _ (and_from _ _ (lt-ltb k (length h) l) (le-leb (get_or h k 0) 0x7F (omega arith)))

same_one : (h g : List ℕ) (k : ℕ) → length h ≡ length g → get_or h k 0 ≡ get_or g k 0 → one_byte h k ≡ one_byte g k
same_one h g k len e = ap₂ (λ (n b : ℕ). cond (ltb k n && leb b 0x7F) (Some b) None) len e

ends_by : (n : ℕ) (f : List ℕ → ℕ → Option ℕ) (h g : List ℕ) (i : ℕ) → f h (i - n) ≡ f g (i - n) → ending_at n f h i ≡ ending_at n f g i
ends_by n f h g i e = ap (λ x. cond (leb n i) x None) e

ends_one : (h : List ℕ) (k : ℕ) → ending_at 1 one_byte h (suc k) ≡ one_byte h k
ends_one h k = let e : suc k - 1 ≡ k = omega arith in cond-true _ _ _ (le-leb 1 (suc k) (omega arith)) ∙ ap (one_byte h) e

low_side : (words : ℕ → Bool) (o : Option ℕ) (one rest : Option ℕ) (a : ℕ) → o ≡ Some a → one ≡ Some a →
    character_side words o (option_or one rest) ≡ word_if (words a)
low_side words o one rest a p q = rw (p, q)

pub close_each : (h g : List ℕ) → length h ≡ length g → ((k : ℕ) → k < length h → AreClose (get_or h k 0) (get_or g k 0)) → (k : ℕ) →
    AreClose (get_or h k 0) (get_or g k 0)
close_each h g len at k = elim (cases_lt k (length h)) [
  | inl l ↦ at k l
  | inr l ↦ inl (get_or_past h k 0 l ∙ sym (get_or_past g k 0 (omega arith)))
]

module _ (h g : List ℕ) (len : length h ≡ length g) (close : (k : ℕ) → AreClose (get_or h k 0) (get_or g k 0)) where
  two_close : (k : ℕ) → two_bytes h k ≡ two_bytes g k
  two_close k = same_two (get_or h k 0) (get_or h (k + 1) 0) (get_or g k 0) (get_or g (k + 1) 0) (close k) (close (k + 1))

  three_close : (k : ℕ) → three_bytes h k ≡ three_bytes g k
  three_close k =
      same_three (get_or h k 0) (get_or h (k + 1) 0) (get_or h (k + 2) 0) (get_or g k 0) (get_or g (k + 1) 0) (get_or g (k + 2) 0)
      (close k) (close (k + 1)) (close (k + 2))

  four_close : (k : ℕ) → four_bytes h k ≡ four_bytes g k
  four_close k =
      same_four (get_or h k 0) (get_or h (k + 1) 0) (get_or h (k + 2) 0) (get_or h (k + 3) 0) (get_or g k 0) (get_or g (k + 1) 0)
      (get_or g (k + 2) 0) (get_or g (k + 3) 0)
      (close k) (close (k + 1)) (close (k + 2)) (close (k + 3))

  rest_at : (k : ℕ) → option_or (two_bytes h k) (option_or (three_bytes h k) (four_bytes h k)) ≡ option_or (two_bytes g k)
      (option_or (three_bytes g k) (four_bytes g k))
  rest_at k = ap₂ option_or (two_close k) (ap₂ option_or (three_close k) (four_close k))

  rest_before : (i : ℕ) → option_or (ending_at 2 two_bytes h i) (option_or (ending_at 3 three_bytes h i) (ending_at 4 four_bytes h i))
      ≡ option_or (ending_at 2 two_bytes g i) (option_or (ending_at 3 three_bytes g i) (ending_at 4 four_bytes g i))
  rest_before i =
      ap₂ option_or (ends_by 2 two_bytes h g i (two_close (i - 2)))
      (ap₂ option_or (ends_by 3 three_bytes h g i (three_close (i - 3))) (ends_by 4 four_bytes h g i (four_close (i - 4))))

  byte_same : (k : ℕ) → k < length h → get_or h k 0 ≡ get_or g k 0 → byte_at h k ≡ byte_at g k
  byte_same k l e = slice_get-get_or h k 0 l ∙ ap Some e ∙ sym (slice_get-get_or g k 0 (omega arith))

  module _ (words : ℕ → Bool) (set : IsWordSet words)
      (alike : (k : ℕ) → k < length h → is_word_byte (get_or h k 0) ≡ is_word_byte (get_or g k 0)) where
    -- the byte at k, as one character, with whatever more bytes spell there
    side_by : (k : ℕ) (one two x y : Option ℕ) → one ≡ one_byte h k → two ≡ one_byte g k → x ≡ y →
        character_side words (byte_at h k) (option_or one x) ≡ character_side words (byte_at g k) (option_or two y)
    side_by k one two x y p q r = elim (cases_lt k (length h)) [
      | inl l ↦ elim (close k) [
        | inl e ↦ ap₂ (character_side words) (byte_same k l e) (ap₂ option_or (p ∙ same_one h g k len e ∙ sym q) r)
        | inr low ↦ let m : k < length g = omega arith in
            low_side words (byte_at h k) one x (get_or h k 0) (slice_get-get_or h k 0 l) (p ∙ one_low h k l low.0)
            ∙ ap word_if (set (get_or h k 0) low.0 ∙ alike k l ∙ sym (set (get_or g k 0) low.1))
            ∙ sym (low_side words (byte_at g k) two y (get_or g k 0) (slice_get-get_or g k 0 m) (q ∙ one_low g k m low.1))
      ]
      | inr l ↦ ap (λ o. character_side words o (option_or one x)) (slice_get_past h k l)
          ∙ sym (ap (λ o. character_side words o (option_or two y)) (slice_get_past g k (omega arith)))
    ]

    pub close_after : (i : ℕ) → (by_characters words).after h i ≡ (by_characters words).after g i
    close_after i = side_by i (one_byte h i) (one_byte g i) _ _ refl refl (rest_at i)

    pub close_before : (i : ℕ) → (by_characters words).before h i ≡ (by_characters words).before g i
    close_before zero = refl
    close_before (suc k) = side_by k (ending_at 1 one_byte h (suc k)) (ending_at 1 one_byte g (suc k)) _ _ (ends_one h k) (ends_one g k)
        (rest_before (suc k))
