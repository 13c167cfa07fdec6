-- What the readers of words compute, compared with what std and `hex` say of the calls that the code makes.
use Rattle.std.proofs.Common.{◌≡◌, ◌≢◌, ◌⊎◌, ℕ, ◌^◌, ◌<◌, true, ◌||◌, not, List, [], ◌∷◌, length, get_or, Some, None, Result, Ok, Err}
use Rattle.std.proofs.Common.{nat_lt, eqb, refl, sym, ◌∙◌, ap, inl, inr, arith}
use Rattle.std.specs.Str.{all_ascii_digits, IsUtf8}
use Rattle.std.specs.Str.Parse.{digits_value, ParsesUnsigned}
use Rattle.std.specs.Result.{result_ok, OkIff}
use Rattle.std.proofs.lemmas.Bool.{and_parts, and_from, or_cases, or_left, or_right, eqb-true, eq-eqb, ltb-true, lt-ltb, not-true}
use Rattle.std.proofs.lemmas.Bool.{not_from_false, ne_eqb, false_from_ne_true}
use Rattle.std.proofs.lemmas.Str.{IsUtf8-from_ascii}
use Rattle.std.proofs.lemmas.Fmt.{IsAscii-from_digits}
use Rattle.std.proofs.lemmas.Str.Parse.{IsNumeralModel, numerals_by_value, tells_all_ascii_digits, parse_plain}
use Rattle.hex.specs.Hex.{decode_of, decode_sized}
use Rattle.hex.specs.declared.error.FromHexError.{FromHexError}
use Rattle.hex.proofs.HexLemmas.{decode_of-ok, decode_sized-ok, decode_sized-twice}
use Rattle.hirscan.specs.Readers.{is_number, number, only_one, hex_byte}

pub digits_model : IsNumeralModel (λ ds. all_ascii_digits ds ≡ true) (digits_value 10)
digits_model = numerals_by_value _ tells_all_ascii_digits

-- what the test of a number says, part by part
pub record NumberParts (w : List ℕ) : Type 0 where
  pub digits : all_ascii_digits w ≡ true
  pub some : 0 < length w
  pub no_leading_zero : (get_or w 0 0 ≢ 48) ⊎ (length w ≡ 1)
  pub small : digits_value 10 w < 2 ^ 32

zero_or_alone : (w : List ℕ) → (not (eqb (get_or w 0 0) 48) ≡ true) ⊎ (eqb (length w) 1 ≡ true) → (get_or w 0 0 ≢ 48) ⊎ (length w ≡ 1)
zero_or_alone w (inl h) = inl (λ e. cc (not-true _ h, eq-eqb _ _ e))
zero_or_alone w (inr h) = inr (eqb-true _ _ h)

pub number_parts : (w : List ℕ) → is_number w ≡ true → NumberParts w
number_parts w h =
    let front = and_parts _ (nat_lt (digits_value 10 w) (2 ^ 32)) h in
    let fore = and_parts _ (not (eqb (get_or w 0 0) 48) || eqb (length w) 1) front.0 in
    let first = and_parts (all_ascii_digits w) (nat_lt 0 (length w)) fore.0 in
    record {
      digits = first.0;
      some = ltb-true 0 (length w) first.1;
      no_leading_zero = zero_or_alone w (or_cases _ _ fore.1);
      small = ltb-true _ _ front.1;
    }

alone_or_zero : (w : List ℕ) → (get_or w 0 0 ≢ 48) ⊎ (length w ≡ 1) → (not (eqb (get_or w 0 0) 48) || eqb (length w) 1) ≡ true
alone_or_zero w (inl h) = or_left _ _ (not_from_false _ (ne_eqb _ _ h))
alone_or_zero w (inr h) = or_right _ _ (eq-eqb _ _ h)

pub is_number_from_parts : (w : List ℕ) → NumberParts w → is_number w ≡ true
is_number_from_parts w p =
    and_from _ _ (and_from _ _ (and_from _ _ p.digits (lt-ltb 0 (length w) p.some)) (alone_or_zero w p.no_leading_zero))
    (lt-ltb _ _ p.small)

pub number_read : (w : List ℕ) → NumberParts w → number w ≡ Some (digits_value 10 w)
number_read w p = rw (is_number_from_parts w p) refl

number_refused : (w : List ℕ) → (NumberParts w → ⊥) → number w ≡ None
number_refused w no_parts = rw (false_from_ne_true (is_number w) (λ h. no_parts (number_parts w h))) refl

pub number_not_utf8 : (w : List ℕ) → (IsUtf8 w → ⊥) → number w ≡ None
number_not_utf8 w h = number_refused w (λ p. h (IsUtf8-from_ascii w (IsAscii-from_digits w (digits_model.to w p.digits))))

pub number_empty : (w : List ℕ) → length w ≡ 0 → number w ≡ None
number_empty w h = number_refused w (λ p. let l = p.some in omega arith)

-- a plus is no digit
plus_is_no_digit : (w : List ℕ) → get_or w 0 0 ≡ 43 → all_ascii_digits w ≡ true → ⊥
plus_is_no_digit [] e h = omega arith
plus_is_no_digit (c ∷ w) e h = cc h

pub number_plus : (w : List ℕ) → get_or w 0 0 ≡ 43 → number w ≡ None
number_plus w e = number_refused w (λ p. plus_is_no_digit w e p.digits)

pub number_zero_first : (w : List ℕ) → get_or w 0 0 ≡ 48 → length w ≢ 1 → number w ≡ None
number_zero_first w e l =
    number_refused w (λ p. elim p.no_leading_zero [ inl ne ↦ ne e | inr alone ↦ l alone ])

number_of_result : {E : Type 0} (w : List ℕ) (r : Result ℕ E) → 0 < length w → (get_or w 0 0 ≢ 48) ⊎ (length w ≡ 1)
    → OkIff r ((all_ascii_digits w ≡ true) × (0 < length w) × (digits_value 10 w < 2 ^ 32)) (digits_value 10 w)
    → result_ok r ≡ number w
number_of_result w (Ok x) some zero h =
    rw h.1 (sym (number_read w (record { digits = h.0.0; some = some; no_leading_zero = zero; small = h.0.2 })))
number_of_result w (Err e) some zero h = sym (number_refused w (λ p. h (p.digits, some, p.small)))

pub number_parsed : {E : Type 0} (w : List ℕ) (r : Result ℕ E) → 0 < length w → get_or w 0 0 ≢ 43
    → (get_or w 0 0 ≢ 48) ⊎ (length w ≡ 1) → ParsesUnsigned 32 10 w r → result_ok r ≡ number w
number_parsed w r some plus zero h = number_of_result w r some zero (parse_plain digits_model 32 w r h plus)

-- one byte decodes from two digits only, so room for one byte reads the same
only_one_sized : (w : List ℕ) (r s : Result (List ℕ) FromHexError) → decode_of w ≡ r → decode_sized w 1 ≡ s → only_one r ≡ only_one s
only_one_sized w r (Ok bytes) e f = ap only_one (sym e ∙ (sym (decode_sized-twice w 1 (decode_sized-ok w 1 bytes f)) ∙ f))
only_one_sized w (Ok []) (Err x) e f = refl
only_one_sized w (Ok (b ∷ [])) (Err x) e f =
    let l = (decode_of-ok w (b ∷ []) e).2 in cc (decode_sized-twice w 1 l, e, f)
only_one_sized w (Ok (b ∷ c ∷ bs)) (Err x) e f = refl
only_one_sized w (Err y) (Err x) e f = refl

pub hex_byte_sized : (w : List ℕ) → hex_byte w ≡ only_one (decode_sized w 1)
hex_byte_sized w = only_one_sized w (decode_of w) (decode_sized w 1) refl refl
