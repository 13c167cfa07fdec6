-- Items of a class of scalars: what their readers compute is what the words say.
use Rattle.std.proofs.Common.{◌≡◌, ℕ, suc, ◌+◌, ◌<◌, Bool, true, false, not, ◌||◌, List, [], ◌∷◌, ◌++◌, length, get_or, take, drop, map}
use Rattle.std.proofs.Common.{Option, Some, None, nat_lt, eqb, refl, sym, ◌∙◌, ap, arith, length-append}
use Rattle.std.specs.List.{position, position_or_len}
use Rattle.std.proofs.Math.ListN.{get_or-append}
use Rattle.std.proofs.Math.Seq.{drop-cons, get_or-append_seam, take-append_seam, drop-append-add}
use Rattle.std.proofs.lemmas.Bool.{or_parts, not-false, ltb-false, lt-ltb, le-ltb, eqb-true, eq-eqb, ne_eqb}
use Rattle.std.proofs.lemmas.List.{take-append-drop}
use Rattle.std.proofs.lemmas.List.Quantifiers.{position-Some}
use Rattle.std.proofs.lemmas.List.Sums.{position_or_len_is}
use Rattle.hirscan.specs.declared.fault.FaultKind.TheVariants.{BadRange}
use Rattle.hirscan.specs.Words.{IsHexNumber, HasHexEnds, is_scalar, IsScalarItem, AreScalarItems}
use Rattle.hirscan.specs.Readers.{hex_number, hex_ends_at, hex_ends, the_hex_ends}
use Rattle.hirscan.specs.LineFault.{first_fault_of, scalar_ends_fault, scalar_item_fault}
use Rattle.hirscan.proofs.StageLemmas.{first_none, when_none}
use Rattle.hirscan.proofs.HexLemmas.{ends_of}
use Rattle.hirscan.proofs.HexNumberLemmas.{hex_number_says, hex_number_said, hex_digits_no_sign}

-- whether the character is the sign
abbrev is_sign : ℕ → Bool
is_sign b = eqb b 45

parted : (w : List ℕ) (k : ℕ) → k < length w → get_or w k 0 ≡ 45 → w ≡ take k w ++ 45 ∷ drop (k + 1) w
parted w k l e =
    let one : suc k ≡ k + 1 = omega arith in
    sym (take-append-drop k w) ∙ ap (λ (x : List ℕ). take k w ++ x) (drop-cons w k 0 l)
    ∙ ap (λ (b : ℕ). take k w ++ b ∷ drop (suc k) w) e
    ∙ ap (λ (n : ℕ). take k w ++ 45 ∷ drop n w) one

ends_at : (w : List ℕ) (o : Option ℕ) (r : ℕ × ℕ) → position is_sign w ≡ o → hex_ends_at w o ≡ Some r → HasHexEnds w r
ends_at w None r e f = absurd cc
ends_at w (Some k) r e f =
    let at = position-Some is_sign w k 0 e in
    let ends = ends_of (hex_number (take k w)) (hex_number (drop (k + 1) w)) r f in
    record {
      low = take k w;
      high = drop (k + 1) w;
      parts = parted w k at.0 (eqb-true _ 45 at.1);
      low_is = hex_number_says (take k w) r.0 ends.0;
      high_is = hex_number_says (drop (k + 1) w) r.1 ends.1;
    }

pub hex_ends_say : (w : List ℕ) (r : ℕ × ℕ) → hex_ends w ≡ Some r → HasHexEnds w r
hex_ends_say w r e = ends_at w (position is_sign w) r refl e

-- the first sign is after the digits of the low end
sign_behind : (low high : List ℕ) (n : ℕ) → IsHexNumber low n → position is_sign (low ++ 45 ∷ high) ≡ Some (length low)
sign_behind low high n h =
    let w : List ℕ = low ++ 45 ∷ high in
    let long : length w ≡ length low + suc (length high) = length-append low (45 ∷ high) in
    let before : (k : ℕ) → k < length low → is_sign (get_or w k 0) ≡ false =
    λ k l. ne_eqb _ 45 (λ e. hex_digits_no_sign low n k h l (sym (get_or-append low (45 ∷ high) 0 k l) ∙ e)) in
    let here : get_or w (length low) 0 ≡ 45 = get_or-append_seam low 45 high 0 in
    let at : position_or_len is_sign w ≡ length low =
    position_or_len_is is_sign w (length low) 0 (omega arith) before (λ l. eq-eqb _ 45 here) in
    let within : nat_lt (length low) (length w) ≡ true = lt-ltb (length low) (length w) (omega arith) in
    rw (at, within) refl

ends_of_parts : (low high : List ℕ) (r : ℕ × ℕ) → IsHexNumber low r.0 → IsHexNumber high r.1 → hex_ends (low ++ 45 ∷ high) ≡ Some r
ends_of_parts low high r l h =
    ap (hex_ends_at (low ++ 45 ∷ high)) (sign_behind low high r.0 l)
    ∙ rw (take-append_seam low (45 ∷ high), drop-append-add low (45 ∷ high) 1, hex_number_said low r.0 l, hex_number_said high r.1 h) refl

pub hex_ends_said : (w : List ℕ) (r : ℕ × ℕ) → HasHexEnds w r → hex_ends w ≡ Some r
hex_ends_said w r h = rw h.parts (ends_of_parts h.low h.high r h.low_is h.high_is)

item_of_ends : (w : List ℕ) (o : Option (ℕ × ℕ)) → hex_ends w ≡ o → scalar_ends_fault o ≡ None
    → (r : ℕ × ℕ) × (o ≡ Some r) × IsScalarItem w r
item_of_ends w None e f = absurd cc
item_of_ends w (Some r) e f =
    let all = or_parts (not (is_scalar r.0) || not (is_scalar r.1)) (nat_lt r.1 r.0) (when_none _ BadRange f) in
    let scalars = or_parts (not (is_scalar r.0)) (not (is_scalar r.1)) all.0 in (
      r,
      refl,
      record {
        ends = hex_ends_say w r e;
        low_scalar = not-false (is_scalar r.0) scalars.0;
        high_scalar = not-false (is_scalar r.1) scalars.1;
        in_order = ltb-false _ _ all.1;
      },
    )

pub scalar_item_says : (w : List ℕ) → scalar_item_fault w ≡ None → IsScalarItem w (the_hex_ends w)
scalar_item_says w e = let i = item_of_ends w (hex_ends w) refl e in rw i.1 i.2

pub scalar_items_say : (ws : List (List ℕ)) → first_fault_of (map scalar_item_fault ws) ≡ None → AreScalarItems ws (map the_hex_ends ws)
scalar_items_say [] e = tt
scalar_items_say (w ∷ ws) e =
    let p = first_none (scalar_item_fault w) _ e in
    (scalar_item_says w p.0, scalar_items_say ws p.1)

pub scalar_item_said : (w : List ℕ) (r : ℕ × ℕ) → IsScalarItem w r → (scalar_item_fault w ≡ None) × (the_hex_ends w ≡ r)
scalar_item_said w r h =
    let ends = hex_ends_said w r h.ends in
    let ordered : nat_lt r.1 r.0 ≡ false = le-ltb r.1 r.0 h.in_order in
    let low = h.low_scalar in
    let high = h.high_scalar in
    (rw (ends, low, high, ordered) refl, rw ends refl)

pub scalar_items_said : (ws : List (List ℕ)) (rs : List (ℕ × ℕ)) → AreScalarItems ws rs
    → (first_fault_of (map scalar_item_fault ws) ≡ None) × (map the_hex_ends ws ≡ rs)
scalar_items_said [] [] h = (refl, refl)
scalar_items_said [] (r ∷ rs) h = absurd h
scalar_items_said (w ∷ ws) [] h = absurd h
scalar_items_said (w ∷ ws) (r ∷ rs) h =
    let one = scalar_item_said w r h.0 in
    let more = scalar_items_said ws rs h.1 in
    (rw one.0 more.0, rw (one.1, more.1) refl)
