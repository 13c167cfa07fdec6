-- What the readers compute is what the words say.
use Rattle.std.proofs.Common.{◌≡◌, ◌≢◌, ◌⊎◌, ℕ, zero, suc, ◌^◌, ◌<◌, Bool, true, false, ◌&&◌, List, [], ◌∷◌, ◌++◌, length, get_or, take}
use Rattle.std.proofs.Common.{drop, map, Option, Some, None, Result, Ok, Err, nat_lt, eqb, refl, sym, ◌∙◌, ap, inl, inr, arith, codes}
use Rattle.std.proofs.Common.{option_map}
use Rattle.std.specs.Fmt.{decimal}
use Rattle.std.specs.Str.{bytes_eq}
use Rattle.std.specs.Str.Parse.{digits_value}
use Rattle.std.proofs.lemmas.Bool.{cases_Bool, and_parts, eqb-true, eq-eqb, ltb-false, le-ltb}
use Rattle.std.proofs.lemmas.Fmt.{digits_decimal, digits_value-decimal, decimal-digits_value, decimal_nonempty, decimal_digit}
use Rattle.std.proofs.lemmas.Fmt.{first_decimal}
use Rattle.hex.specs.Hex.{decode_of}
use Rattle.hex.specs.declared.error.FromHexError.{FromHexError}
use Rattle.hirscan.specs.declared.fault.FaultKind.TheVariants.{BadNumber, BadHex, BadRange, BadChoice}
use Rattle.hirscan.specs.Words.{IsNumber, IsBound, IsGreedy, IsSwitch, IsYes, IsHex, IsHexByte, HasEnds, IsItem, AreItems}
use Rattle.hirscan.specs.Readers.{is_number, number, the_number, bound, the_bound, order, the_order, switch, the_switch, yes_or_no}
use Rattle.hirscan.specs.Readers.{the_yes_or_no, one_or_more, hex_bytes, the_bytes, only_one, hex_byte, the_byte, item_ends, the_ends}
use Rattle.hirscan.specs.LineFault.{first_fault_of, unless_read, ends_fault, item_fault}
use Rattle.hirscan.proofs.StageLemmas.{first_none, when_none}
use Rattle.hirscan.proofs.HexLemmas.{hex_says, hex_said, ends_of}
pub use Rattle.hirscan.proofs.NameLemmas.{line_word_spelled, line_word-spelling, look_says, look_said}
use Rattle.hirscan.proofs.NameLemmas.{text_cases}
pub use Rattle.hirscan.proofs.ScalarItemLemmas.{scalar_items_say, scalar_items_said}
use Rattle.hirscan.proofs.WordLemmas.{NumberParts, number_parts, number_read, digits_model}

number_of_parts : (w : List ℕ) → NumberParts w → IsNumber w (digits_value 10 w)
number_of_parts w p =
    let wide : digits_value 10 w < 2 ^ 64 = (let s = p.small in omega arith) in
    let alone : get_or w 0 0 ≡ 48 → length w ≡ 1 =
    λ e. elim p.no_leading_zero [ inl ne ↦ absurd (ne e) | inr l ↦ l ] in
    (p.small, sym (decimal-digits_value digits_model w p.digits p.some alone wide))

pub number_says : (w : List ℕ) → unless_read (number w) BadNumber ≡ None → IsNumber w (the_number w)
number_says w e =
    elim (cases_Bool (is_number w)) [
      | inl t ↦ rw t (number_of_parts w (number_parts w t))
      | inr f ↦ absurd (let g = rw f at e in cc)
    ]

zero_alone : (n : ℕ) → n < 2 ^ 64 → (get_or (decimal n) 0 0 ≢ 48) ⊎ (length (decimal n) ≡ 1)
zero_alone zero h = inr (ap length (decimal_digit 0 (omega arith)))
zero_alone (suc n) h = inl (λ e. let f = first_decimal (suc n) (omega arith) h in omega arith)

decimal_parts : (n : ℕ) → n < 2 ^ 32 → NumberParts (decimal n)
decimal_parts n h =
    let wide : n < 2 ^ 64 = omega arith in
    let value = digits_value-decimal digits_model n wide in
    record {
      digits = digits_decimal digits_model n wide;
      some = decimal_nonempty n wide;
      no_leading_zero = zero_alone n wide;
      small = rw value h;
    }

pub number_said : (w : List ℕ) (n : ℕ) → IsNumber w n → number w ≡ Some n
number_said w n h =
    let wide : n < 2 ^ 64 = (let s = h.0 in omega arith) in
    rw h.1 (number_read (decimal n) (decimal_parts n h.0) ∙ ap Some (digits_value-decimal digits_model n wide))

bound_of_number : (w : List ℕ) (o : Option ℕ) → number w ≡ o → unless_read (option_map Some o) BadNumber ≡ None
    → (n : ℕ) × (o ≡ Some n) × IsNumber w n
bound_of_number w None e f = absurd cc
bound_of_number w (Some n) e f = (n, refl, let g = number_says w (rw e refl) in rw e at g)

pub bound_says : (w : List ℕ) → unless_read (bound w) BadNumber ≡ None → IsBound w (the_bound w)
bound_says w e =
    elim (text_cases w (codes "inf")) [
      | inl t ↦ rw t.0 t.1
      | inr f ↦
          let n = bound_of_number w (number w) refl (rw f at e) in
          rw (f, n.1) n.2
    ]

-- `inf` is no number
number_is_no_inf : (n : ℕ) → n < 2 ^ 64 → bytes_eq (decimal n) (codes "inf") ≡ false
number_is_no_inf n h =
    elim (text_cases (decimal n) (codes "inf")) [
      | inl t ↦ absurd (let d = digits_decimal digits_model n h in let g = rw t.1 at d in cc)
      | inr f ↦ f
    ]

pub bound_said : (w : List ℕ) (b : Option ℕ) → IsBound w b → bound w ≡ Some b
bound_said w None h = rw h refl
bound_said w (Some n) h =
    let wide : n < 2 ^ 64 = (let s = h.0 in omega arith) in
    let read = number_said w n h in
    let other : bytes_eq w (codes "inf") ≡ false = rw h.1 (number_is_no_inf n wide) in
    rw (other, read) refl

pub order_says : (w : List ℕ) → unless_read (order w) BadChoice ≡ None → IsGreedy w (the_order w)
order_says w e =
    elim (text_cases w (codes "greedy")) [
      | inl t ↦ rw t.0 t.1
      | inr f ↦
          elim (text_cases w (codes "lazy")) [
            | inl t ↦ rw (f, t.0) t.1
            | inr g ↦ absurd (let h = rw (f, g) at e in cc)
          ]
    ]

pub order_said : (w : List ℕ) (g : Bool) → IsGreedy w g → order w ≡ Some g
order_said w true h = rw h refl
order_said w false h = rw h refl

pub switch_says : (w : List ℕ) → unless_read (switch w) BadChoice ≡ None → IsSwitch w (the_switch w)
switch_says w e =
    elim (text_cases w (codes "on")) [
      | inl t ↦ rw t.0 t.1
      | inr f ↦
          elim (text_cases w (codes "off")) [
            | inl t ↦ rw (f, t.0) t.1
            | inr g ↦ absurd (let h = rw (f, g) at e in cc)
          ]
    ]

pub switch_said : (w : List ℕ) (g : Bool) → IsSwitch w g → switch w ≡ Some g
switch_said w true h = rw h refl
switch_said w false h = rw h refl

pub yes_says : (w : List ℕ) → unless_read (yes_or_no w) BadChoice ≡ None → IsYes w (the_yes_or_no w)
yes_says w e =
    elim (text_cases w (codes "yes")) [
      | inl t ↦ rw t.0 t.1
      | inr f ↦
          elim (text_cases w (codes "no")) [
            | inl t ↦ rw (f, t.0) t.1
            | inr g ↦ absurd (let h = rw (f, g) at e in cc)
          ]
    ]

pub yes_said : (w : List ℕ) (g : Bool) → IsYes w g → yes_or_no w ≡ Some g
yes_said w true h = rw h refl
yes_said w false h = rw h refl

bytes_of_result : (w : List ℕ) (r : Result (List ℕ) FromHexError) → decode_of w ≡ r → unless_read (one_or_more r) BadHex ≡ None
    → (bytes : List ℕ) × (one_or_more r ≡ Some bytes) × IsHex w bytes
bytes_of_result w (Ok []) e f = absurd cc
bytes_of_result w (Ok (b ∷ bs)) e f = (b ∷ bs, refl, hex_says w (b ∷ bs) e (omega arith))
bytes_of_result w (Err x) e f = absurd cc

pub hex_bytes_says : (w : List ℕ) → unless_read (hex_bytes w) BadHex ≡ None → IsHex w (the_bytes w)
hex_bytes_says w e =
    let b = bytes_of_result w (decode_of w) refl e in rw b.1 b.2

pub hex_bytes_said : (w bytes : List ℕ) → IsHex w bytes → hex_bytes w ≡ Some bytes
hex_bytes_said w [] h = absurd (let l = h.some in omega arith)
hex_bytes_said w (b ∷ bs) h = rw (hex_said w (b ∷ bs) h) refl

pub byte_of_result : (w : List ℕ) (r : Result (List ℕ) FromHexError) (b : ℕ) → decode_of w ≡ r → only_one r ≡ Some b → IsHex w (b ∷ [])
byte_of_result w (Ok []) b e f = absurd cc
byte_of_result w (Ok (c ∷ [])) b e f = let g : c ≡ b = cc in hex_says w (b ∷ []) (e ∙ ap (λ x. Ok (x ∷ [])) g) (omega arith)
byte_of_result w (Ok (c ∷ d ∷ cs)) b e f = absurd cc
byte_of_result w (Err x) b e f = absurd cc

byte_of : (w : List ℕ) (o : Option ℕ) → hex_byte w ≡ o → unless_read o BadHex ≡ None → (b : ℕ) × (o ≡ Some b) × IsHexByte w b
byte_of w None e f = absurd cc
byte_of w (Some b) e f = (b, refl, byte_of_result w (decode_of w) b refl e)

pub hex_byte_says : (w : List ℕ) → unless_read (hex_byte w) BadHex ≡ None → IsHexByte w (the_byte w)
hex_byte_says w e = let b = byte_of w (hex_byte w) refl e in rw b.1 b.2

pub hex_byte_said : (w : List ℕ) (b : ℕ) → IsHexByte w b → hex_byte w ≡ Some b
hex_byte_said w b h = ap only_one (hex_said w (b ∷ []) h)

-- what is before the sign, and after it
five : (w : List ℕ) → length w ≡ 5 → get_or w 2 0 ≡ 45 → w ≡ take 2 w ++ 45 ∷ drop 3 w
five [] l e = absurd (omega arith)
five (a ∷ []) l e = absurd (omega arith)
five (a ∷ b ∷ []) l e = absurd (omega arith)
five (a ∷ b ∷ c ∷ w) l e = ap (λ x. a ∷ b ∷ x ∷ w) e

-- what the ends of an item say
pub ends_say : (w : List ℕ) (r : ℕ × ℕ) → item_ends w ≡ Some r → HasEnds w r
ends_say w r e =
    elim (cases_Bool (eqb (length w) 5 && eqb (get_or w 2 0) 45)) [
      | inl t ↦
          let p = and_parts _ _ t in
          let ends = ends_of (hex_byte (take 2 w)) (hex_byte (drop 3 w)) r (rw t at e) in
          record {
            low = take 2 w;
            high = drop 3 w;
            parts = five w (eqb-true _ _ p.0) (eqb-true _ _ p.1);
            low_is = byte_of_result _ _ _ refl ends.0;
            high_is = byte_of_result _ _ _ refl ends.1;
          }
      | inr n ↦ absurd (let g = rw n at e in cc)
    ]

item_of_ends : (w : List ℕ) (o : Option (ℕ × ℕ)) → item_ends w ≡ o → ends_fault o ≡ None → (r : ℕ × ℕ) × (o ≡ Some r) × IsItem w r
item_of_ends w None e f = absurd cc
item_of_ends w (Some r) e f = (r, refl, record { ends = ends_say w r e; in_order = ltb-false _ _ (when_none _ BadRange f) })

pub item_says : (w : List ℕ) → item_fault w ≡ None → IsItem w (the_ends w)
item_says w e = let i = item_of_ends w (item_ends w) refl e in rw i.1 i.2

pub items_say : (ws : List (List ℕ)) → first_fault_of (map item_fault ws) ≡ None → AreItems ws (map the_ends ws)
items_say [] e = tt
items_say (w ∷ ws) e =
    let p = first_none (item_fault w) _ e in
    (item_says w p.0, items_say ws p.1)

ends_of_parts : (low high : List ℕ) (r : ℕ × ℕ) → length low ≡ 2 → length high ≡ 2 → IsHex low (r.0 ∷ []) → IsHex high (r.1 ∷ [])
    → item_ends (low ++ 45 ∷ high) ≡ Some r
ends_of_parts [] high r l m g h = absurd (omega arith)
ends_of_parts (a ∷ []) high r l m g h = absurd (omega arith)
ends_of_parts (a ∷ b ∷ []) high r l m g h =
    let t : eqb (length (a ∷ b ∷ 45 ∷ high)) 5 ≡ true = eq-eqb _ _ (omega arith) in
    rw (t, hex_said (a ∷ b ∷ []) (r.0 ∷ []) g, hex_said high (r.1 ∷ []) h) refl
ends_of_parts (a ∷ b ∷ c ∷ low) high r l m g h = absurd (omega arith)

pub ends_said : (w : List ℕ) (r : ℕ × ℕ) → HasEnds w r → item_ends w ≡ Some r
ends_said w r h =
    let l = h.low_is.two_each in let m = h.high_is.two_each in
    rw h.parts (ends_of_parts h.low h.high r (omega arith) (omega arith) h.low_is h.high_is)

pub item_said : (w : List ℕ) (r : ℕ × ℕ) → IsItem w r → (item_fault w ≡ None) × (the_ends w ≡ r)
item_said w r h =
    let ends = ends_said w r h.ends in
    let ordered : nat_lt r.1 r.0 ≡ false = le-ltb r.1 r.0 h.in_order in
    (rw (ends, ordered) refl, rw ends refl)

pub items_said : (ws : List (List ℕ)) (rs : List (ℕ × ℕ)) → AreItems ws rs → (first_fault_of (map item_fault ws) ≡ None) ×
    (map the_ends ws ≡ rs)
items_said [] [] h = (refl, refl)
items_said [] (r ∷ rs) h = absurd h
items_said (w ∷ ws) [] h = absurd h
items_said (w ∷ ws) (r ∷ rs) h =
    let one = item_said w r h.0 in
    let more = items_said ws rs h.1 in
    (rw one.0 more.0, rw (one.1, more.1) refl)
