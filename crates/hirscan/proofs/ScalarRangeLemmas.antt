-- The ranges of a class of scalars, built item by item: ascending, with the members of the items.
use Rattle.std.proofs.Common.{◌≡◌, ℕ, suc, ◌+◌, ◌-◌, ◌<◌, ◌≤◌, Bool, true, false, ◌&&◌, ◌||◌, nat_lt, nat_le, min, max, not, inl, inr, List}
use Rattle.std.proofs.Common.{[], ◌∷◌, length, get_or, drop, map, reverse, Option, Some, None, refl, sym, ◌∙◌, ap, arith}
use Rattle.std.specs.List.{list_all}
use Rattle.std.specs.Option.{unwrap_or}
use Rattle.std.proofs.Math.Seq.{drop-cons, drop-length}
use Rattle.std.proofs.lemmas.Bool.{cases_Bool, and_parts, and_from, or_parts, leb-true, le-leb, ltb-true, ltb-false}
use Rattle.std.proofs.lemmas.Bool.Decides.{nat_tests}
use Rattle.hir_core.specs.Means.{is_member}
use Rattle.hir_core.specs.Facts.{rises_from, is_ascending}
use Rattle.hirscan.specs.declared.fault.FaultKind.TheVariants.{BadRange}
use Rattle.hirscan.specs.Words.{AreScalarItems, is_scalar, with_range, scalar_ranges}
use Rattle.hirscan.specs.Readers.{hex_ends, the_hex_ends}
use Rattle.hirscan.specs.LineFault.{first_fault_of, scalar_ends_fault, scalar_item_fault}
use Rattle.hirscan.proofs.StageLemmas.{first_none, when_none}

-- the ranges begin at this number or above it, and some number lies between each two of them
abbrev pub AreApart : ℕ → List (ℕ × ℕ) → Type 0
AreApart low [] = Unit {0}
AreApart low (r ∷ rs) = (low ≤ r.0) × (r.0 ≤ r.1) × AreApart (r.1 + 2) rs

apart_below : (low high : ℕ) (rs : List (ℕ × ℕ)) → low ≤ high → AreApart high rs → AreApart low rs
apart_below low high [] l h = tt
apart_below low high (r ∷ rs) l h = let f = h.0 in (omega arith, h.1, h.2)

apart_with_range : (low : ℕ) (r : ℕ × ℕ) (rs : List (ℕ × ℕ)) → low ≤ r.0 → r.0 ≤ r.1 → AreApart low rs → AreApart low (with_range r rs)
apart_with_range low r [] l m h = (l, m, tt)
apart_with_range low r (s ∷ rest) l m h =
    let f = h.0 in
    let o = h.1 in
    elim (cases_Bool (nat_lt (r.1 + 1) s.0)) [
      | inl t ↦ let k = ltb-true _ _ t in rw t (l, m, (omega arith, o, h.2))
      | inr n ↦ elim (cases_Bool (nat_lt (s.1 + 1) r.0)) [
        | inl t ↦ let k = ltb-true _ _ t in rw (n, t) (f, o, apart_with_range (s.1 + 2) r rest (omega arith) m h.2)
        | inr k ↦
            rw (n, k) (apart_with_range low (min r.0 s.0, max r.1 s.1) rest (omega arith) (omega arith)
            (apart_below low (s.1 + 2) rest (omega arith) h.2))
      ]
    ]

-- the item has its low end first
abbrev pub in_order : ℕ × ℕ → Bool
in_order r = nat_le r.0 r.1

pub scalar_ranges_apart : (items : List (ℕ × ℕ)) → list_all in_order items ≡ true → AreApart 0 (scalar_ranges items)
unfolding scalar_ranges
scalar_ranges_apart [] h = tt
scalar_ranges_apart (r ∷ items) h =
    let p = and_parts (in_order r) (list_all in_order items) h in
    apart_with_range 0 r (scalar_ranges items) (omega arith) (leb-true r.0 r.1 p.0) (scalar_ranges_apart items p.1)

apart_rise : (low : ℕ) (rs : List (ℕ × ℕ)) → AreApart low rs → rises_from low rs ≡ true
apart_rise low [] h = refl
apart_rise low (r ∷ rs) h =
    let more : AreApart (r.1 + 1) rs = apart_below (r.1 + 1) (r.1 + 2) rs (omega arith) h.2 in
    and_from _ _ (and_from _ _ (le-leb low r.0 h.0) (le-leb r.0 r.1 h.1)) (apart_rise (r.1 + 1) rs more)

pub scalar_ranges_ascend : (items : List (ℕ × ℕ)) → list_all in_order items ≡ true → is_ascending (scalar_ranges items) ≡ true
scalar_ranges_ascend items h = apart_rise 0 (scalar_ranges items) (scalar_ranges_apart items h)

-- a number is in a range or in one that meets or touches it if and only if it is in the range that takes in both
taken_in : (a b c d n : ℕ) (others : Bool) → nat_lt (b + 1) c ≡ false → nat_lt (d + 1) a ≡ false
    → (nat_le (min a c) n && nat_le n (max b d)) || others ≡ (nat_le a n && nat_le n b) || ((nat_le c n && nat_le n d) || others)
taken_in a b c d n others h k = grind (arith, nat_tests)

swapped : (a b c : Bool) → a || (b || c) ≡ b || (a || c)
swapped true true c = refl
swapped true false c = refl
swapped false true c = refl
swapped false false c = refl

is_member-with_range : (r : ℕ × ℕ) (rs : List (ℕ × ℕ)) (c : ℕ)
    → is_member (with_range r rs) c ≡ (nat_le r.0 c && nat_le c r.1) || is_member rs c
is_member-with_range r [] c = refl
is_member-with_range r (s ∷ rest) c =
    elim (cases_Bool (nat_lt (r.1 + 1) s.0)) [
      | inl t ↦ rw t refl
      | inr n ↦ elim (cases_Bool (nat_lt (s.1 + 1) r.0)) [
        | inl t ↦
            rw (n, t) (ap (λ b. (nat_le s.0 c && nat_le c s.1) || b) (is_member-with_range r rest c)
            ∙ swapped (nat_le s.0 c && nat_le c s.1) (nat_le r.0 c && nat_le c r.1) (is_member rest c))
        | inr k ↦
            rw (n, k) (is_member-with_range (min r.0 s.0, max r.1 s.1) rest c
            ∙ taken_in r.0 r.1 s.0 s.1 c (is_member rest c) n k)
      ]
    ]

pub scalar_members : (items : List (ℕ × ℕ)) (c : ℕ) → is_member (scalar_ranges items) c ≡ is_member items c
unfolding scalar_ranges
scalar_members [] c = refl
scalar_members (r ∷ items) c =
    is_member-with_range r (scalar_ranges items) c ∙ ap (λ b. (nat_le r.0 c && nat_le c r.1) || b) (scalar_members items c)

-- items of words have their low end first
are_in_order : (ws : List (List ℕ)) (items : List (ℕ × ℕ)) → AreScalarItems ws items → list_all in_order items ≡ true
are_in_order [] [] h = refl
are_in_order [] (r ∷ items) h = absurd h
are_in_order (w ∷ ws) [] h = absurd h
are_in_order (w ∷ ws) (r ∷ items) h =
    let o = h.0.in_order in and_from (in_order r) (list_all in_order items) (le-leb r.0 r.1 o) (are_in_order ws items h.1)

pub scalar_classes_ascend : (ws : List (List ℕ)) (items : List (ℕ × ℕ)) → AreScalarItems ws items
    → is_ascending (scalar_ranges items) ≡ true
scalar_classes_ascend ws items h = scalar_ranges_ascend items (are_in_order ws items h)

-- so have words without a fault
pub ends_in_order : (o : Option (ℕ × ℕ)) → scalar_ends_fault o ≡ None → in_order (unwrap_or o (0, 0)) ≡ true
ends_in_order None h = absurd cc
ends_in_order (Some r) h =
    let f = when_none (not (is_scalar r.0) || not (is_scalar r.1) || nat_lt r.1 r.0) BadRange h in
    let k : nat_lt r.1 r.0 ≡ false = (or_parts (not (is_scalar r.0) || not (is_scalar r.1)) _ f).1 in
    le-leb r.0 r.1 (ltb-false r.1 r.0 k)

pub faultless_in_order : (ws : List (List ℕ)) → first_fault_of (map scalar_item_fault ws) ≡ None →
    list_all in_order (map the_hex_ends ws) ≡ true
faultless_in_order [] h = refl
faultless_in_order (w ∷ ws) h =
    let p = first_none (scalar_item_fault w) (map scalar_item_fault ws) h in
    and_from (in_order (the_hex_ends w)) _ (ends_in_order (hex_ends w) p.0) (faultless_in_order ws p.1)

pub faultless_items_ascend : (ws : List (List ℕ)) → first_fault_of (map scalar_item_fault ws) ≡ None
    → is_ascending (scalar_ranges (map the_hex_ends ws)) ≡ true
faultless_items_ascend ws h = scalar_ranges_ascend (map the_hex_ends ws) (faultless_in_order ws h)

-- the loop over the items, from the last to the first
pub ranges_of_none : (items ranges : List (ℕ × ℕ)) → ranges ≡ [] → reverse ranges ≡ scalar_ranges (drop (length items) items)
unfolding scalar_ranges
ranges_of_none items ranges e = ap reverse e ∙ sym (ap scalar_ranges (drop-length items))

pub ranges_with_item : (items : List (ℕ × ℕ)) (i : ℕ) → 0 < i → i ≤ length items
    → scalar_ranges (drop (i - 1) items) ≡ with_range (get_or items (i - 1) (0, 0)) (scalar_ranges (drop i items))
unfolding scalar_ranges
ranges_with_item items i some l =
    let e : suc (i - 1) ≡ i = omega arith in
    ap scalar_ranges (drop-cons items (i - 1) (0, 0) (omega arith))
    ∙ ap (λ (k : ℕ). with_range (get_or items (i - 1) (0, 0)) (scalar_ranges (drop k items))) e
