-- The words that lines have: numbers, digits, names and items of classes, each plain and of what it was printed for.
use Rattle.std.proofs.Common.{◌≡◌, ℕ, zero, suc, ◌+◌, ◌*◌, ◌/◌, ◌%◌, ◌^◌, ◌<◌, ◌≤◌, ◌==◌, Bool, true, false, not, ◌&&◌}
use Rattle.std.proofs.Common.{List, [], ◌∷◌, ◌++◌, map, length, get_or, All, Option, Some, None, refl, sym, ◌∙◌, ap, subst, inl, inr, arith}
use Rattle.std.proofs.Common.{decimal, nat_lt, nat_le, slice_index}
use Rattle.std.specs.List.{list_all}
use Rattle.std.specs.Fmt.{digits, digits_onto, digit_glyph}
use Rattle.std.specs.Str.{all_ascii_digits}
use Rattle.std.proofs.lemmas.Bool.{cases_Bool, cases_lt, and_parts, and_from, or_cases, not_from_false, ne_eqb, eq-eqb, ltb-true, ltb-false}
use Rattle.std.proofs.lemmas.Bool.{leb-true, eqb-true}
use Rattle.std.proofs.lemmas.Fmt.{digits_decimal}
use Rattle.std.proofs.lemmas.List.{get_or_past}
use Rattle.std.proofs.lemmas.List.Elements.{All-head, All-tail}
use Rattle.std.proofs.lemmas.List.Folds.{list_all-append}
use Rattle.hex.specs.Hex.{encode_with, lower_digits, encode_lower, IsBytes}
use Rattle.hex.proofs.HexLemmas.{decode_of-encode_lower}
use Rattle.look_core.specs.declared.look.Look.{Look}
use Rattle.look_core.specs.declared.look.Look.TheVariants.{Start, End, StartLF, EndLF, StartCRLF, EndCRLF, WordAscii, WordAsciiNegate}
use Rattle.look_core.specs.declared.look.Look.TheVariants.{WordUnicode, WordUnicodeNegate, WordStartAscii, WordEndAscii, WordStartUnicode}
use Rattle.look_core.specs.declared.look.Look.TheVariants.{WordEndUnicode, WordStartHalfAscii, WordEndHalfAscii, WordStartHalfUnicode}
use Rattle.look_core.specs.declared.look.Look.TheVariants.{WordEndHalfUnicode}
use Rattle.hirscan.specs.Words.{IsBound, IsGreedy, IsHexDigit, SpellsByte, IsHex, IsHexByte, IsItem, look_name, HasHexValue, IsHexNumber}
use Rattle.hirscan.specs.Words.{is_scalar, IsScalarItem, AreScalarItems, AreItems}
use Rattle.hirscan.specs.Words.IsHexDigit.{from_zero, from_small_a, from_great_a}
use Rattle.hirscan.specs.Readers.{IsReader, hex_bytes, one_or_more}
use Rattle.hirscan.proofs.ForCallers.{digits_model}
use Rattle.hirhead.specs.Lines.{two_digits, byte_item, scalar_item, bound_word, order_word}
use Rattle.hirhead.specs.HasLines.{IsByteRange, IsScalarRange, IsShort}
use Rattle.hirhead.proofs.PlainLemmas.{is_plain, plain}

-- ---- characters

high_plain : (c : ℕ) → 45 ≤ c → is_plain c ≡ true
high_plain c h =
    and_from (not (c == 32)) (not (c == 10)) (not_from_false (c == 32) (ne_eqb c 32 (λ e. absurd (omega (arith, e, h)))))
    (not_from_false (c == 10) (ne_eqb c 10 (λ e. absurd (omega (arith, e, h)))))

pub glyph_is : (d : ℕ) → d < 16 → IsHexDigit (digit_glyph true d) d
glyph_is d h = elim (cases_Bool (nat_lt d 10)) [
  | inl t ↦ rw t (from_zero (ltb-true d 10 t) refl)
  | inr f ↦ let l = ltb-false d 10 f in rw f (from_great_a l h (omega arith))
]

digit_high : (c v : ℕ) → IsHexDigit c v → 45 ≤ c
digit_high c v (from_zero l e) = omega arith
digit_high c v (from_small_a l m e) = omega arith
digit_high c v (from_great_a l m e) = omega arith

glyph_plain : (d : ℕ) → d < 16 → is_plain (digit_glyph true d) ≡ true
glyph_plain d h = high_plain (digit_glyph true d) (digit_high (digit_glyph true d) d (glyph_is d h))

-- ---- decimal numbers, and the words of rounds

ascii_plain : (w : List ℕ) → all_ascii_digits w ≡ true → plain w ≡ true
ascii_plain [] h = refl
ascii_plain (c ∷ w) h =
    let p = and_parts (nat_le 48 c && nat_le c 57) (all_ascii_digits w) h in
    let low = leb-true 48 c (and_parts (nat_le 48 c) (nat_le c 57) p.0).0 in
    and_from (is_plain c) (plain w) (high_plain c (omega (arith, low))) (ascii_plain w p.1)

pub decimal_plain : (n : ℕ) → n < 2 ^ 32 → plain (decimal n) ≡ true
decimal_plain n h = ascii_plain (decimal n) (digits_decimal digits_model n (omega (arith, h)))

pub bound_plain : (most : Option ℕ) → IsShort most → plain (bound_word most) ≡ true
bound_plain None h = refl
bound_plain (Some n) h = decimal_plain n h

pub bound_is : (most : Option ℕ) → IsShort most → IsBound (bound_word most) most
bound_is None h = refl
bound_is (Some n) h = (h, refl)

pub order_plain : (greedy : Bool) → plain (order_word greedy) ≡ true
order_plain true = refl
order_plain false = refl

pub order_is : (greedy : Bool) → IsGreedy (order_word greedy) greedy
order_is true = refl
order_is false = refl

pub name_plain : (l : Look) → plain (look_name l) ≡ true
name_plain Start = refl
name_plain End = refl
name_plain StartLF = refl
name_plain EndLF = refl
name_plain StartCRLF = refl
name_plain EndCRLF = refl
name_plain WordAscii = refl
name_plain WordAsciiNegate = refl
name_plain WordUnicode = refl
name_plain WordUnicodeNegate = refl
name_plain WordStartAscii = refl
name_plain WordEndAscii = refl
name_plain WordStartUnicode = refl
name_plain WordEndUnicode = refl
name_plain WordStartHalfAscii = refl
name_plain WordEndHalfAscii = refl
name_plain WordStartHalfUnicode = refl
name_plain WordEndHalfUnicode = refl

-- ---- the bytes of a literal

listed_plain : (t : List ℕ) (d : ℕ) → plain t ≡ true → d < length t → is_plain (get_or t d 0) ≡ true
listed_plain [] d p h = absurd (omega arith)
listed_plain (c ∷ t) zero p h = (and_parts (is_plain c) (plain t) p).0
listed_plain (c ∷ t) (suc d) p h = listed_plain t d (and_parts (is_plain c) (plain t) p).1 (omega arith)

low_digit_plain : (d : ℕ) → d < 16 → is_plain (slice_index lower_digits d) ≡ true
low_digit_plain d h = listed_plain lower_digits d refl h

pub hex_plain : (bytes : List ℕ) → All (λ b. b < 256) bytes → plain (encode_lower bytes) ≡ true
unfolding encode_with
hex_plain [] h = refl
hex_plain (b ∷ bytes) h =
    let small = All-head (λ b. b < 256) b bytes h in
    and_from (is_plain (slice_index lower_digits (b / 16))) (is_plain (slice_index lower_digits (b % 16)) && plain (encode_lower bytes))
    (low_digit_plain (b / 16) (omega arith))
    (and_from (is_plain (slice_index lower_digits (b % 16))) (plain (encode_lower bytes)) (low_digit_plain (b % 16) (omega arith))
    (hex_plain bytes (All-tail (λ b. b < 256) b bytes h)))

are_bytes : (bytes : List ℕ) → All (λ b. b < 256) bytes → IsBytes bytes
are_bytes bytes h i = elim (cases_lt i (length bytes)) [
  | inl l ↦ h i 0 l
  | inr l ↦ let e = get_or_past bytes i 0 l in omega arith
]

pub hex_is : IsReader hex_bytes IsHex → (b : ℕ) (bytes : List ℕ) → All (λ b. b < 256) (b ∷ bytes) →
    IsHex (encode_lower (b ∷ bytes)) (b ∷ bytes)
hex_is reads b bytes h =
    (reads.some (encode_lower (b ∷ bytes)) (b ∷ bytes)).0
    (ap one_or_more (decode_of-encode_lower (b ∷ bytes) (are_bytes (b ∷ bytes) h)))

-- ---- items of bytes

spelled_one : (b : ℕ) → b < 256 → (k : ℕ) → k < length (b ∷ [])
    → SpellsByte (slice_index (two_digits b) (2 * k)) (slice_index (two_digits b) (2 * k + 1)) (slice_index (b ∷ []) k)
spelled_one b h zero l = record { high_is = glyph_is (b / 16) (omega arith); low_is = glyph_is (b % 16) (omega arith) }
spelled_one b h (suc k) l = absurd (omega arith)

two_are : (b : ℕ) → b < 256 → IsHexByte (two_digits b) b
two_are b h = record { some = omega arith; two_each = refl; spelled = spelled_one b h }

two_plain : (b : ℕ) → b < 256 → plain (two_digits b) ≡ true
two_plain b h =
    and_from (is_plain (digit_glyph true (b / 16))) (is_plain (digit_glyph true (b % 16)) && true) (glyph_plain (b / 16) (omega arith))
    (and_from (is_plain (digit_glyph true (b % 16))) true (glyph_plain (b % 16) (omega arith)) refl)

-- two words with a sign between them
parted_plain : (v w : List ℕ) → plain v ≡ true → plain w ≡ true → plain (v ++ 45 ∷ w) ≡ true
parted_plain v w p q = list_all-append is_plain v (45 ∷ w) ∙ and_from (plain v) (plain w) p q

pub byte_items_plain : (ranges : List (ℕ × ℕ)) → All IsByteRange ranges → list_all plain (map byte_item ranges) ≡ true
byte_items_plain [] h = refl
byte_items_plain (r ∷ ranges) h =
    let here = All-head IsByteRange r ranges h in
    let low = here.0 in let high = here.1 in
    and_from (plain (byte_item r)) (list_all plain (map byte_item ranges))
    (parted_plain (two_digits r.0) (two_digits r.1) (two_plain r.0 (omega arith)) (two_plain r.1 high))
    (byte_items_plain ranges (All-tail IsByteRange r ranges h))

byte_item_is : (r : ℕ × ℕ) → IsByteRange r → IsItem (byte_item r) r
byte_item_is r h =
    let low = h.0 in let high = h.1 in
    record {
      ends = record {
        low = two_digits r.0;
        high = two_digits r.1;
        parts = refl;
        low_is = two_are r.0 (omega arith);
        high_is = two_are r.1 high;
      };
      in_order = low;
    }

pub byte_items_are : (ranges : List (ℕ × ℕ)) → All IsByteRange ranges → AreItems (map byte_item ranges) ranges
byte_items_are [] h = tt
byte_items_are (r ∷ ranges) h =
    (byte_item_is r (All-head IsByteRange r ranges h), byte_items_are ranges (All-tail IsByteRange r ranges h))

-- ---- items of scalars

-- so many divisions by 16 leave nothing
abbrev HasDigits : ℕ → ℕ → Type 0
HasDigits zero n = n ≡ 0
HasDigits (suc k) n = HasDigits k (n / 16)

no_digits : (k : ℕ) → HasDigits k 0
no_digits zero = refl
no_digits (suc k) = no_digits k

digits_plain : (k n : ℕ) (acc : List ℕ) → plain acc ≡ true → plain (digits_onto k 16 true n acc) ≡ true
digits_plain zero n acc h = h
digits_plain (suc k) n acc h =
    let more : plain (digit_glyph true (n % 16) ∷ acc) ≡ true = and_from _ _ (glyph_plain (n % 16) (omega arith)) h in
    elim (cases_Bool (n / 16 == 0)) [
      | inl t ↦ rw t more
      | inr f ↦ rw f (digits_plain k (n / 16) (digit_glyph true (n % 16) ∷ acc) more)
    ]

digits_value_is : (k n v : ℕ) (acc : List ℕ) → HasDigits k n → HasHexValue n acc v → HasHexValue 0 (digits_onto k 16 true n acc) v
digits_value_is zero n v acc f h = subst (λ (m : ℕ). HasHexValue m acc v) f h
digits_value_is (suc k) n v acc f h =
    elim (cases_Bool (n / 16 == 0)) [
      | inl t ↦
          let z = eqb-true (n / 16) 0 t in
          let same : n ≡ 16 * 0 + n % 16 = omega arith in
          rw t (n % 16, glyph_is (n % 16) (omega arith), subst (λ (m : ℕ). HasHexValue m acc v) same h)
      | inr e ↦
          let same : n ≡ 16 * (n / 16) + n % 16 = omega arith in
          rw e (digits_value_is k (n / 16) v (digit_glyph true (n % 16) ∷ acc) f
          (n % 16, glyph_is (n % 16) (omega arith), subst (λ (m : ℕ). HasHexValue m acc v) same h))
    ]

digits_grow : (k n : ℕ) (acc : List ℕ) → length acc ≤ length (digits_onto k 16 true n acc)
digits_grow zero n acc = omega arith
digits_grow (suc k) n acc =
    elim (cases_Bool (n / 16 == 0)) [
      | inl t ↦ rw t (omega arith)
      | inr f ↦ rw f (let m = digits_grow k (n / 16) (digit_glyph true (n % 16) ∷ acc) in omega arith)
    ]

digits_some : (k n : ℕ) → 0 < length (digits_onto (suc k) 16 true n [])
digits_some k n =
    elim (cases_Bool (n / 16 == 0)) [
      | inl t ↦ rw t (omega arith)
      | inr f ↦ rw f (let m = digits_grow k (n / 16) (digit_glyph true (n % 16) ∷ []) in omega arith)
    ]

eq_zero : (n : ℕ) → n / 16 ≡ 0 → (n / 16 == 0) ≡ true
eq_zero n e = eq-eqb (n / 16) 0 e

digits_short : (j k n : ℕ) (acc : List ℕ) → HasDigits (suc j) n → length (digits_onto k 16 true n acc) ≤ length acc + suc j
digits_short j zero n acc f = omega arith
digits_short zero (suc k) n acc f = rw (eq_zero n f) (omega arith)
digits_short (suc j) (suc k) n acc f =
    elim (cases_Bool (n / 16 == 0)) [
      | inl t ↦ rw t (omega arith)
      | inr e ↦ rw e (let m = digits_short j k (n / 16) (digit_glyph true (n % 16) ∷ acc) f in omega arith)
    ]

scalar_small : (c : ℕ) → is_scalar c ≡ true → c < 0x110000
scalar_small c h =
    elim (or_cases (nat_lt c 0xD800) (nat_le 0xE000 c && nat_le c 0x10FFFF) h) [
      | inl t ↦ let l = ltb-true c 0xD800 t in omega arith
      | inr t ↦ let l = leb-true c 0x10FFFF (and_parts (nat_le 0xE000 c) (nat_le c 0x10FFFF) t).1 in omega arith
    ]

six_digits : (c : ℕ) → c < 0x110000 → HasDigits 6 c
six_digits c h = omega arith

all_digits : (c : ℕ) → HasDigits 6 c → HasDigits 64 c
all_digits c h = subst (HasDigits 58) (sym h) (no_digits 58)

scalar_number : (c : ℕ) → is_scalar c ≡ true → IsHexNumber (digits 16 true c) c
unfolding digits
scalar_number c h =
    let six = six_digits c (scalar_small c h) in
    record {
      some = digits_some 63 c;
      six = let m = digits_short 5 64 c [] six in omega arith;
      value = digits_value_is 64 c c [] (all_digits c six) refl;
    }

scalar_plain : (c : ℕ) → plain (digits 16 true c) ≡ true
unfolding digits
scalar_plain c = digits_plain 64 c [] refl

pub scalar_items_plain : (ranges : List (ℕ × ℕ)) → list_all plain (map scalar_item ranges) ≡ true
scalar_items_plain [] = refl
scalar_items_plain (r ∷ ranges) =
    and_from (plain (scalar_item r)) (list_all plain (map scalar_item ranges))
    (parted_plain (digits 16 true r.0) (digits 16 true r.1) (scalar_plain r.0) (scalar_plain r.1)) (scalar_items_plain ranges)

scalar_item_is : (r : ℕ × ℕ) → IsScalarRange r → IsScalarItem (scalar_item r) r
scalar_item_is r h = record {
  ends = record {
    low = digits 16 true r.0;
    high = digits 16 true r.1;
    parts = refl;
    low_is = scalar_number r.0 h.1;
    high_is = scalar_number r.1 h.2;
  };
  low_scalar = h.1;
  high_scalar = h.2;
  in_order = h.0;
}

pub scalar_items_are : (ranges : List (ℕ × ℕ)) → All IsScalarRange ranges → AreScalarItems (map scalar_item ranges) ranges
scalar_items_are [] h = tt
scalar_items_are (r ∷ ranges) h =
    (scalar_item_is r (All-head IsScalarRange r ranges h), scalar_items_are ranges (All-tail IsScalarRange r ranges h))
