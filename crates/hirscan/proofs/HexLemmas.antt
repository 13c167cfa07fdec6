-- A word of hexadecimal digits: what the decoder answers is what the digits spell, character by character.
use Rattle.std.proofs.Common.{◌≡◌, ℕ, zero, suc, ◌+◌, ◌-◌, ◌*◌, ◌/◌, ◌%◌, ◌<◌, ◌&&◌, leb, List, [], ◌∷◌, length, get_or, Option, Some, None}
use Rattle.std.proofs.Common.{Result, Ok, Err, refl, sym, ap, subst, ◌∙◌, inl, inr, arith}
use Rattle.std.specs.Result.{result_unwrap_or}
use Rattle.std.proofs.lemmas.Bool.{cases_Bool, and_parts, leb-true}
use Rattle.std.proofs.lemmas.Bool.Decides.{nat_tests}
use Rattle.hex.specs.Hex.{decode_of, decode_pairs, digit_or_error, hex_digit_value, pair_value, value_at, ◌>>=◌}
use Rattle.hex.specs.declared.error.FromHexError.{FromHexError}
use Rattle.hex.proofs.HexLemmas.{decode_of-ok, decode_of-even}
use Rattle.hex.proofs.Pairs.{cons_byte, decode_pairs-ok_pair}
use Rattle.hirscan.specs.Words.{IsHexDigit, SpellsByte, IsHex}
use Rattle.hirscan.specs.Readers.{both}
use Rattle.hirscan.specs.Words.IsHexDigit.{from_zero, from_small_a, from_great_a}
use Rattle.nfa_core.proofs.ForCallers.{some_same}

-- ---- one digit

pub digit_says : (c v : ℕ) → hex_digit_value c ≡ Some v → IsHexDigit c v
digit_says c v e = elim (cases_Bool (leb 65 c && leb c 70)) [
  | inl t ↦
      let p = and_parts _ _ t in let low = leb-true 65 c p.0 in let high = leb-true c 70 p.1 in
      let is : c - 55 ≡ v = some_same (c - 55) v (rw t at e) in
      from_great_a (omega arith) (omega arith) (omega arith)
  | inr f ↦ elim (cases_Bool (leb 97 c && leb c 102)) [
    | inl t ↦
        let p = and_parts _ _ t in let low = leb-true 97 c p.0 in let high = leb-true c 102 p.1 in
        let is : c - 87 ≡ v = some_same (c - 87) v (rw (f, t) at e) in
        from_small_a (omega arith) (omega arith) (omega arith)
    | inr g ↦ elim (cases_Bool (leb 48 c && leb c 57)) [
      | inl t ↦
          let p = and_parts _ _ t in let low = leb-true 48 c p.0 in let high = leb-true c 57 p.1 in
          let is : c - 48 ≡ v = some_same (c - 48) v (rw (f, g, t) at e) in
          from_zero (omega arith) (omega arith)
      | inr n ↦ absurd (let none : None ≡ Some v = rw (f, g, n) at e in cc)
    ]
  ]
]

pub digit_said : (c v : ℕ) → IsHexDigit c v → hex_digit_value c ≡ Some v
digit_said c v (from_zero l e) = grind (arith, nat_tests)
digit_said c v (from_small_a l m e) = grind (arith, nat_tests)
digit_said c v (from_great_a l m e) = grind (arith, nat_tests)

digit_small : (c v : ℕ) → IsHexDigit c v → v < 16
digit_small c v (from_zero l e) = omega arith
digit_small c v (from_small_a l m e) = m
digit_small c v (from_great_a l m e) = m

digit_read : (c i v : ℕ) (o : Option ℕ) → digit_or_error c i o ≡ Ok v → o ≡ Some v
digit_read c i v (Some w) e = ap Some (ap (λ (r : Result ℕ FromHexError). result_unwrap_or r 0) e)
digit_read c i v None e = absurd cc

-- ---- pairs of digits

bind_ok : {A B : Type 0} (r : Result A FromHexError) (f : A → Result B FromHexError) (y : B) → (r >>= f) ≡ Ok y →
    (x : A) × (r ≡ Ok x) × (f x ≡ Ok y)
bind_ok (Ok x) f y e = (x, refl, e)
bind_ok (Err x) f y e = absurd cc

byte_of_digits : (a c v w b : ℕ) → IsHexDigit a v → IsHexDigit c w → v * 16 + w ≡ b → SpellsByte a c b
byte_of_digits a c v w b high low e =
    let s = digit_small c w low in
    record {
      high_is = let same : v ≡ b / 16 = omega arith in subst (IsHexDigit a) same high;
      low_is = let same : w ≡ b % 16 = omega arith in subst (IsHexDigit c) same low;
    }

-- the characters of byte k spell it
abbrev SpellsAt : List ℕ → List ℕ → ℕ → Type 0
SpellsAt w bytes k = SpellsByte (get_or w (2 * k) 0) (get_or w (2 * k + 1) 0) (get_or bytes k 0)

more_spelled : (a c b : ℕ) (w bytes : List ℕ) (k : ℕ) → SpellsAt w bytes k → SpellsAt (a ∷ c ∷ w) (b ∷ bytes) (suc k)
more_spelled a c b w bytes k s =
    let even : suc (suc (2 * k)) ≡ 2 * suc k = omega arith in
    let odd : suc (suc (2 * k + 1)) ≡ 2 * suc k + 1 = omega arith in
    let P : ℕ → Type 0 = λ m. SpellsByte (get_or (a ∷ c ∷ w) m 0) (get_or w (2 * k + 1) 0) (get_or bytes k 0) in
    let Q : ℕ → Type 0 = λ n. SpellsByte (get_or (a ∷ c ∷ w) (2 * suc k) 0) (get_or (a ∷ c ∷ w) n 0) (get_or bytes k 0) in
    subst Q odd (subst P even s)

less_spelled : (a c b : ℕ) (w bytes : List ℕ) (k : ℕ) → SpellsAt (a ∷ c ∷ w) (b ∷ bytes) (suc k) → SpellsAt w bytes k
less_spelled a c b w bytes k s =
    let even : 2 * suc k ≡ suc (suc (2 * k)) = omega arith in
    let odd : 2 * suc k + 1 ≡ suc (suc (2 * k + 1)) = omega arith in
    let P : ℕ → Type 0 = λ m. SpellsByte (get_or (a ∷ c ∷ w) m 0) (get_or (a ∷ c ∷ w) (2 * suc k + 1) 0) (get_or bytes k 0) in
    let Q : ℕ → Type 0 = λ n. SpellsByte (get_or w (2 * k) 0) (get_or (a ∷ c ∷ w) n 0) (get_or bytes k 0) in
    subst Q odd (subst P even s)

all_spelled : (a c b : ℕ) (w bytes : List ℕ) → SpellsByte a c b → ((k : ℕ) → k < length bytes → SpellsAt w bytes k) →
    (k : ℕ) → k < suc (length bytes) → SpellsAt (a ∷ c ∷ w) (b ∷ bytes) k
all_spelled a c b w bytes first each zero l = first
all_spelled a c b w bytes first each (suc k) l = more_spelled a c b w bytes k (each k (omega arith))

pairs_say : (i : ℕ) (w bytes : List ℕ) → decode_pairs i w ≡ Ok bytes → (k : ℕ) → k < length bytes → SpellsAt w bytes k
unfolding decode_pairs
pairs_say i [] bytes e =
    let same : [] ≡ bytes = ap (λ (r : Result (List ℕ) FromHexError). result_unwrap_or r []) e in
    λ k l. absurd (omega (arith, ap length same))
pairs_say i (a ∷ []) bytes e = absurd cc
pairs_say i (a ∷ c ∷ w) bytes e =
    let byte = bind_ok (pair_value a c i) _ bytes e in
    let high = bind_ok (value_at a i) _ byte.0 byte.1 in
    let low = bind_ok (value_at c (i + 1)) _ byte.0 high.2 in
    let rest = bind_ok (decode_pairs (i + 2) w) _ bytes byte.2 in
    let sum : high.0 * 16 + low.0 ≡ byte.0 = ap (λ (r : Result ℕ FromHexError). result_unwrap_or r 0) low.2 in
    let same : byte.0 ∷ rest.0 ≡ bytes = ap (λ (r : Result (List ℕ) FromHexError). result_unwrap_or r []) rest.2 in
    let first = byte_of_digits a c high.0 low.0 byte.0
    (digit_says a high.0 (digit_read a i high.0 (hex_digit_value a) high.1))
    (digit_says c low.0 (digit_read c (i + 1) low.0 (hex_digit_value c) low.1)) sum in
    let P : List ℕ → Type 0 = λ bs. (k : ℕ) → k < length bs → SpellsAt (a ∷ c ∷ w) bs k in
    subst P same (all_spelled a c byte.0 w rest.0 first (pairs_say (i + 2) w rest.0 rest.1))

pairs_said : (i : ℕ) (w bytes : List ℕ) → length w ≡ 2 * length bytes → ((k : ℕ) → k < length bytes → SpellsAt w bytes k) →
    decode_pairs i w ≡ Ok bytes
unfolding decode_pairs
pairs_said i [] [] l each = refl
pairs_said i [] (b ∷ bs) l each = absurd (omega arith)
pairs_said i (a ∷ []) [] l each = absurd (omega arith)
pairs_said i (a ∷ []) (b ∷ bs) l each = absurd (omega arith)
pairs_said i (a ∷ c ∷ w) [] l each = absurd (omega arith)
pairs_said i (a ∷ c ∷ w) (b ∷ bs) l each =
    let here : SpellsByte a c b = each 0 (omega arith) in
    let high : value_at a i ≡ Ok (b / 16) = ap (digit_or_error a i) (digit_said a (b / 16) here.high_is) in
    let low : value_at c (i + 1) ≡ Ok (b % 16) = ap (digit_or_error c (i + 1)) (digit_said c (b % 16) here.low_is) in
    let pair : pair_value a c i ≡ Ok (b / 16 * 16 + b % 16) = rw (high, low) refl in
    let more = pairs_said (i + 2) w bs (omega arith) (λ k m. less_spelled a c b w bs k (each (suc k) (omega arith))) in
    let whole : b / 16 * 16 + b % 16 ≡ b = omega arith in
    decode_pairs-ok_pair i a c _ w pair ∙ ap (cons_byte (b / 16 * 16 + b % 16)) more ∙ ap (λ (v : ℕ). Ok (v ∷ bs)) whole

-- ---- a word

pub hex_says : (w bytes : List ℕ) → decode_of w ≡ Ok bytes → 0 < length bytes → IsHex w bytes
hex_says w bytes e l =
    let ok = decode_of-ok w bytes e in
    record { some = l; two_each = ok.2; spelled = pairs_say 0 w bytes (sym (decode_of-even w ok.0) ∙ e) }

pub hex_said : (w bytes : List ℕ) → IsHex w bytes → decode_of w ≡ Ok bytes
hex_said w bytes h =
    decode_of-even w (let l = h.two_each in omega arith) ∙ pairs_said 0 w bytes h.two_each h.spelled

-- two ends are read if and only if both are
pub ends_of : (a b : Option ℕ) → (r : ℕ × ℕ) → both a b ≡ Some r → (a ≡ Some r.0) × (b ≡ Some r.1)
ends_of None b r e = absurd cc
ends_of (Some x) None r e = absurd cc
ends_of (Some x) (Some y) r e = let f : (x, y) ≡ r = cc in (ap (λ (q : ℕ × ℕ). Some q.0) f, ap (λ (q : ℕ × ℕ). Some q.1) f)
