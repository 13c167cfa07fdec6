-- A number of hexadecimal digits: what std parses is what the digits spell.
use Rattle.std.proofs.Common.{◌≡◌, ◌≢◌, ℕ, zero, suc, ◌+◌, ◌-◌, ◌*◌, ◌^◌, ◌<◌, ◌≤◌, true, ◌&&◌, List, [], ◌∷◌, length, get_or, Option, Some}
use Rattle.std.proofs.Common.{None, Result, Ok, Err, is_some, nat_lt, refl, sym, ◌∙◌, ap, subst, inl, inr, arith}
use Rattle.std.specs.List.{list_all}
use Rattle.std.specs.Char.{digit_value}
use Rattle.std.specs.Str.{IsUtf8, IsAscii}
use Rattle.std.specs.Str.Parse.{AllDigits, IsNumeral, digits_value, digits_value_after, ParsesUnsigned}
use Rattle.std.specs.Result.{result_ok, OkIff}
use Rattle.std.proofs.lemmas.Bool.{cases_Bool, and_parts, and_from, ltb-true, lt-ltb, false_from_ne_true}
use Rattle.std.proofs.lemmas.Bool.Decides.{nat_tests}
use Rattle.std.proofs.lemmas.Int.Digits.{digits_value-lt}
use Rattle.std.proofs.lemmas.Str.{IsUtf8-from_ascii}
use Rattle.std.proofs.lemmas.Str.Parse.{without_leading_plus_none}
use Rattle.std.proofs.Math.Nat.{pow-le-pow_right}
use Rattle.hex.specs.Hex.{hex_digit_value, is_hex_digit}
use Rattle.hirscan.specs.Words.{IsHexDigit, HasHexValue, IsHexNumber}
use Rattle.hirscan.specs.Words.IsHexDigit.{from_zero, from_small_a, from_great_a}
use Rattle.hirscan.specs.Readers.{is_hex_number, hex_number}
use Rattle.hirscan.proofs.HexLemmas.{digit_says, digit_said}

-- ---- one digit

value_said : (c v : ℕ) → IsHexDigit c v → digit_value c ≡ v
value_said c v (from_zero l e) = grind (arith, nat_tests)
value_said c v (from_small_a l m e) = grind (arith, nat_tests)
value_said c v (from_great_a l m e) = grind (arith, nat_tests)

value_small : (c v : ℕ) → IsHexDigit c v → digit_value c < 16
value_small c v h = let e = value_said c v h in elim h [
  | from_zero l d ↦ omega arith
  | from_small_a l m d ↦ omega arith
  | from_great_a l m d ↦ omega arith
]

value_says : (c : ℕ) → digit_value c < 16 → IsHexDigit c (digit_value c)
value_says c h = elim (cases_Bool (nat_lt c 48)) [
  | inl t ↦ absurd (let k : 36 < 16 = rw t at h in omega arith)
  | inr f ↦ elim (cases_Bool (nat_lt c 58)) [
    | inl t ↦ rw (f, t) (from_zero (grind (arith, nat_tests)) (grind (arith, nat_tests)))
    | inr g ↦ elim (cases_Bool (nat_lt c 65)) [
      | inl t ↦ absurd (let k : 36 < 16 = rw (f, g, t) at h in omega arith)
      | inr i ↦ elim (cases_Bool (nat_lt c 91)) [
        | inl t ↦
            let k : c - 55 < 16 = rw (f, g, i, t) at h in
            rw (f, g, i, t) (from_great_a (grind (arith, nat_tests)) k (grind (arith, nat_tests)))
        | inr j ↦ elim (cases_Bool (nat_lt c 97)) [
          | inl t ↦ absurd (let k : 36 < 16 = rw (f, g, i, j, t) at h in omega arith)
          | inr n ↦ elim (cases_Bool (nat_lt c 123)) [
            | inl t ↦
                let k : c - 87 < 16 = rw (f, g, i, j, n, t) at h in
                rw (f, g, i, j, n, t) (from_small_a (grind (arith, nat_tests)) k (grind (arith, nat_tests)))
            | inr o ↦ absurd (let k : 36 < 16 = rw (f, g, i, j, n, o) at h in omega arith)
          ]
        ]
      ]
    ]
  ]
]

some_of : (o : Option ℕ) → is_some o ≡ true → (v : ℕ) × (o ≡ Some v)
some_of None e = absurd cc
some_of (Some v) e = (v, refl)

tested_small : (c : ℕ) → is_hex_digit c ≡ true → digit_value c < 16
tested_small c e = let s = some_of (hex_digit_value c) e in value_small c s.0 (digit_says c s.0 s.1)

small_tested : (c : ℕ) → digit_value c < 16 → is_hex_digit c ≡ true
small_tested c h = rw (digit_said c (digit_value c) (value_says c h)) refl

-- ---- the digits

digits_tested : (w : List ℕ) → list_all is_hex_digit w ≡ true → AllDigits 16 w
digits_tested [] e = tt
digits_tested (c ∷ w) e = let p = and_parts (is_hex_digit c) (list_all is_hex_digit w) e in (tested_small c p.0, digits_tested w p.1)

tested_digits : (w : List ℕ) → AllDigits 16 w → list_all is_hex_digit w ≡ true
tested_digits [] h = refl
tested_digits (c ∷ w) h = and_from (is_hex_digit c) (list_all is_hex_digit w) (small_tested c h.0) (tested_digits w h.1)

digit_ascii : (c v : ℕ) → IsHexDigit c v → c < 128
digit_ascii c v (from_zero l e) = omega arith
digit_ascii c v (from_small_a l m e) = omega arith
digit_ascii c v (from_great_a l m e) = omega arith

digits_ascii : (w : List ℕ) → AllDigits 16 w → IsAscii w
digits_ascii [] h i = omega arith
digits_ascii (c ∷ w) h zero = digit_ascii c (digit_value c) (value_says c h.0)
digits_ascii (c ∷ w) h (suc i) = digits_ascii w h.1 i

-- ---- the number

pub record HexParts (w : List ℕ) : Type 0 where
  pub digits : AllDigits 16 w
  pub some : 0 < length w
  pub six : length w ≤ 6

hex_parts : (w : List ℕ) → is_hex_number w ≡ true → HexParts w
hex_parts w h =
    let front = and_parts (list_all is_hex_digit w && nat_lt 0 (length w)) (nat_lt (length w) 7) h in
    let fore = and_parts (list_all is_hex_digit w) (nat_lt 0 (length w)) front.0 in
    let short = ltb-true (length w) 7 front.1 in
    record { digits = digits_tested w fore.0; some = ltb-true 0 (length w) fore.1; six = omega arith }

hex_from_parts : (w : List ℕ) → HexParts w → is_hex_number w ≡ true
hex_from_parts w p =
    let six = p.six in
    and_from _ _ (and_from _ _ (tested_digits w p.digits) (lt-ltb 0 (length w) p.some)) (lt-ltb (length w) 7 (omega arith))

hex_number_read : (w : List ℕ) → HexParts w → hex_number w ≡ Some (digits_value 16 w)
hex_number_read w p = rw (hex_from_parts w p) refl

hex_number_refused : (w : List ℕ) → (HexParts w → ⊥) → hex_number w ≡ None
hex_number_refused w no_parts = rw (false_from_ne_true (is_hex_number w) (λ h. no_parts (hex_parts w h))) refl

pub hex_number_not_utf8 : (w : List ℕ) → (IsUtf8 w → ⊥) → hex_number w ≡ None
hex_number_not_utf8 w h = hex_number_refused w (λ p. h (IsUtf8-from_ascii w (digits_ascii w p.digits)))

pub hex_number_empty : (w : List ℕ) → length w ≡ 0 → hex_number w ≡ None
hex_number_empty w h = hex_number_refused w (λ p. let l = p.some in omega arith)

pub hex_number_long : (w : List ℕ) → 6 < length w → hex_number w ≡ None
hex_number_long w h = hex_number_refused w (λ p. let l = p.six in omega arith)

-- a plus is no digit
no_plus : (w : List ℕ) → get_or w 0 0 ≡ 43 → AllDigits 16 w → ⊥
no_plus [] e h = omega arith
no_plus (c ∷ w) e h = let k : digit_value 43 < 16 = subst (λ d. digit_value d < 16) e h.0 in omega arith

pub hex_number_plus : (w : List ℕ) → get_or w 0 0 ≡ 43 → hex_number w ≡ None
hex_number_plus w e = hex_number_refused w (λ p. no_plus w e p.digits)

-- six digits are far below 2 ^ 32
hex_number_small : (w : List ℕ) → HexParts w → digits_value 16 w < 2 ^ 32
hex_number_small w p =
    let less = digits_value-lt 16 w p.digits in
    let least : 16 ^ length w ≤ 16 ^ 6 = pow-le-pow_right {n = 16} (omega arith) p.six in
    omega arith

of_result : {E : Type 0} (w : List ℕ) (r : Result ℕ E) → 0 < length w → length w ≤ 6
    → OkIff r (IsNumeral 16 w × (digits_value 16 w < 2 ^ 32)) (digits_value 16 w) → result_ok r ≡ hex_number w
of_result w (Ok x) some six h = rw h.1 (sym (hex_number_read w (record { digits = h.0.0.1; some = some; six = six })))
of_result w (Err e) some six h = sym (hex_number_refused w (λ p. h ((p.some, p.digits), hex_number_small w p)))

pub hex_number_parsed : {E : Type 0} (w : List ℕ) (r : Result ℕ E) → 0 < length w → length w ≤ 6 → get_or w 0 0 ≢ 43
    → ParsesUnsigned 32 16 w r → result_ok r ≡ hex_number w
hex_number_parsed w r some six plus h =
    of_result w r some six (subst (λ (l : List ℕ). OkIff r (IsNumeral 16 l × (digits_value 16 l < 2 ^ 32)) (digits_value 16 l))
    (without_leading_plus_none w plus) h)

-- ---- what the digits spell

value_spelled : (before : ℕ) (w : List ℕ) → AllDigits 16 w → HasHexValue before w (digits_value_after 16 before w)
value_spelled before [] h = refl
value_spelled before (c ∷ w) h =
    let same : before * 16 + digit_value c ≡ 16 * before + digit_value c = omega arith in
    let more = value_spelled (before * 16 + digit_value c) w h.1 in (
      digit_value c,
      value_says c h.0,
      subst (λ (b : ℕ). HasHexValue b w (digits_value_after 16 (before * 16 + digit_value c) w)) same more,
    )

spelled_value : (before : ℕ) (w : List ℕ) (n : ℕ) → HasHexValue before w n → AllDigits 16 w × (digits_value_after 16 before w ≡ n)
spelled_value before [] n h = (tt, sym h)
spelled_value before (c ∷ w) n h =
    let e = value_said c h.0 h.1 in
    let more = spelled_value (16 * before + h.0) w n h.2 in
    let same : before * 16 + digit_value c ≡ 16 * before + h.0 = omega arith in
    ((value_small c h.0 h.1, more.0), ap (λ (b : ℕ). digits_value_after 16 b w) same ∙ more.1)

pub hex_number_says : (w : List ℕ) (n : ℕ) → hex_number w ≡ Some n → IsHexNumber w n
hex_number_says w n e = elim (cases_Bool (is_hex_number w)) [
  | inl t ↦
      let p = hex_parts w t in
      let f : Some (digits_value 16 w) ≡ Some n = rw t at e in
      let same : digits_value 16 w ≡ n = cc in
      record { some = p.some; six = p.six; value = subst (HasHexValue 0 w) same (value_spelled 0 w p.digits) }
  | inr f ↦ absurd (let g = rw f at e in cc)
]

pub hex_number_said : (w : List ℕ) (n : ℕ) → IsHexNumber w n → hex_number w ≡ Some n
hex_number_said w n h =
    let s = spelled_value 0 w n h.value in
    hex_number_read w (record { digits = s.0; some = h.some; six = h.six }) ∙ ap Some s.1

-- no digit is the sign
pub hex_digits_no_sign : (w : List ℕ) (n k : ℕ) → IsHexNumber w n → k < length w → get_or w k 0 ≢ 45
hex_digits_no_sign w n k h l e = no_sign w (spelled_value 0 w n h.value).0 k l e
  where
    no_sign : (ds : List ℕ) → AllDigits 16 ds → (i : ℕ) → i < length ds → get_or ds i 0 ≡ 45 → ⊥
    no_sign [] h i l e = omega arith
    no_sign (c ∷ ds) h zero l e = let k : digit_value 45 < 16 = subst (λ d. digit_value d < 16) e h.0 in omega arith
    no_sign (c ∷ ds) h (suc i) l e = no_sign ds h.1 i (omega arith) e
