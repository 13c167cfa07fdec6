-- Why a name finds exactly the group that has it, and each slot belongs to exactly one group.
use Rattle.std.proofs.Common.{◌≡◌, ◌≢◌, ◌==◌, ℕ, zero, suc, ◌+◌, ◌-◌, ◌*◌, ◌<◌, ◌≤◌, ◌⊎◌, ◌↔◌, Bool, true, List, [], ◌∷◌, ◌++◌, length}
use Rattle.std.proofs.Common.{take, get_or, refl, sym, ap, ◌∙◌, inl, inr, arith, Some, None, is_some, length-append, append_assoc}
use Rattle.std.specs.Prelude.{Option, nat_lt, slice_get}
use Rattle.std.specs.Option.{option_and_then, option_map}
use Rattle.std.specs.List.{position}
use Rattle.std.proofs.lemmas.Bool.{cases_Bool, cases_lt, cond-true, cond-false, lt-ltb, le-ltb, ne_eqb}
use Rattle.std.proofs.lemmas.Option.{slice_get_within, slice_get-get_or}
use Rattle.std.proofs.lemmas.List.Quantifiers.{position-Some}
use Rattle.search_core.specs.Index.{greatest_index}
use Rattle.search_types.specs.Groups.{Name, Groups, groups_of, explicit_slot_len, implicit_slot_len, slot_len, explicit_slot, is_named}
use Rattle.search_types.specs.Groups.{to_name, to_index, slot}
use Rattle.search_types.specs.GroupFaults.{TooManyPatterns, TooManyGroups, FirstMustBeUnnamed, Duplicate, group_fault, names_fault}
use Rattle.search_types.specs.GroupFaults.{numbered_fault, pattern_fault, fault_after, group_fault_after, name_fault}
use Rattle.search_types.specs.GroupSlots.{IsSlotOf}
use Rattle.search_types.proofs.IndexLemmas.{position_first, position_later, bytes_eq_path, bytes_eq_from, not_some}
use Rattle.search_types.proofs.GroupLemmas.{none_first, none_second, no_names_fault, has_group, has_pattern, explicit_slot_in_range}

-- ---- a slot by its group
slot_implicit : (gs : Groups) (p : ℕ) → 0 < length (groups_of gs p) → slot gs p 0 ≡ Some (p * 2)
slot_implicit gs p h = cond-true (nat_lt 0 (length (groups_of gs p))) _ _ (lt-ltb 0 (length (groups_of gs p)) h)

slot_explicit : (gs : Groups) (p g : ℕ) → 0 < g → g < length (groups_of gs p) → slot gs p g ≡ Some (explicit_slot gs p g)
slot_explicit gs p g s h =
    let n : g ≢ 0 = λ e. omega (arith, s, e) in
    cond-true (nat_lt g (length (groups_of gs p))) _ _ (lt-ltb g (length (groups_of gs p)) h)
    ∙ ap Some (cond-false (g == 0) (p * 2) (explicit_slot gs p g) (ne_eqb g 0 n))

slot_none : (gs : Groups) (p g : ℕ) → length (groups_of gs p) ≤ g → slot gs p g ≡ None
slot_none gs p g h = cond-false (nat_lt g (length (groups_of gs p))) _ _ (le-ltb g (length (groups_of gs p)) h)

some_is : {A : Type 0} (a b : A) (o : Option A) → o ≡ Some a → o ≡ Some b → b ≡ a
some_is a b o e f = grind (arith, e, f)

none_is_not : {A : Type 0} {B : Type 0} (a : A) (o : Option A) → o ≡ None → o ≡ Some a → B
none_is_not a o e f = absurd (grind (arith, e, f))

-- a slot is an implicit or an explicit one
abbrev pub IsKnown : Groups → ℕ → ℕ → ℕ → Type 0
IsKnown gs k p g = (g < length (groups_of gs p)) × (((g ≡ 0) × (k ≡ p * 2)) ⊎ ((0 < g) × (k ≡ explicit_slot gs p g)))

pub slot_known : (gs : Groups) (k p g : ℕ) → slot gs p g ≡ Some k → IsKnown gs k p g
slot_known gs k p zero e = elim (cases_lt 0 (length (groups_of gs p))) [
  | inl h ↦ (h, inl (refl, some_is (p * 2) k (slot gs p 0) (slot_implicit gs p h) e))
  | inr h ↦ none_is_not k (slot gs p 0) (slot_none gs p 0 h) e
]
slot_known gs k p (suc g) e = elim (cases_lt (suc g) (length (groups_of gs p))) [
  | inl h ↦ (
    h,
    inr (
      omega arith,
      some_is (explicit_slot gs p (suc g)) k (slot gs p (suc g))
          (slot_explicit gs p (suc g) (omega arith) h) e,
    ),
  )
  | inr h ↦ none_is_not k (slot gs p (suc g)) (slot_none gs p (suc g) h) e
]

-- ---- where the slots of a group lie
implicit_below : (gs : Groups) (k p g : ℕ) → IsKnown gs k p g → g ≡ 0 → k + 2 ≤ implicit_slot_len gs
implicit_below gs k p g h z =
    let here : p < length gs = has_pattern gs p g h.0 in
    elim h.1 [
      | inl w ↦ omega (arith, here, w.1)
      | inr w ↦ absurd (omega (arith, w.0, z))
    ]

explicit_above : (gs : Groups) (k p g : ℕ) → IsKnown gs k p g → 0 < g → k ≡ explicit_slot gs p g
explicit_above gs k p g h s = elim h.1 [
  | inl w ↦ absurd (omega (arith, w.0, s))
  | inr w ↦ w.1
]

known_below : (gs : Groups) (k p g : ℕ) → IsKnown gs k p g → k + 2 ≤ slot_len gs
known_below gs k p g h = elim h.1 [
  | inl w ↦ let here : p < length gs = has_pattern gs p g h.0 in omega (arith, here, w.1)
  | inr w ↦ omega (arith, w.1, explicit_slot_in_range gs p g w.0 h.0)
]

-- a slot and its group's first one
pub record IsNear (gs : Groups) (k p g : ℕ) : Type 0 where
  pub first : ℕ
  pub known : IsKnown gs first p g
  pub from : first ≤ k
  pub upto : k ≤ first + 1

near : (gs : Groups) (k p g : ℕ) → IsSlotOf gs k p g → IsNear gs k p g
near gs k p g h = elim h.2 [
  | inl e ↦ record { first = h.0; known = slot_known gs h.0 p g h.1; from = omega (arith, e); upto = omega (arith, e) }
  | inr e ↦ record { first = h.0; known = slot_known gs h.0 p g h.1; from = omega (arith, e); upto = omega (arith, e) }
]

pub slot_in_range : (gs : Groups) (k p g : ℕ) → IsSlotOf gs k p g → k < slot_len gs
slot_in_range gs k p g h =
    let n = near gs k p g h in
    omega (arith, n.upto, known_below gs n.first p g n.known)

pub first_is_implicit : (gs : Groups) (k p : ℕ) → IsSlotOf gs k p 0 → k < implicit_slot_len gs
first_is_implicit gs k p h =
    let n = near gs k p 0 h in
    omega (arith, n.upto, implicit_below gs n.first p 0 n.known refl)

pub other_is_explicit : (gs : Groups) (k p g : ℕ) → 0 < g → IsSlotOf gs k p g → implicit_slot_len gs ≤ k
other_is_explicit gs k p g s h =
    let n = near gs k p g h in
    omega (arith, n.from, explicit_above gs n.first p g n.known s)

-- ---- no slot belongs to two groups
bases_rise : (gs : Groups) (p q : ℕ) → p < q → q < length gs → explicit_slot_len (take p gs) +
    (length (groups_of gs p) - 1) * 2 ≤ explicit_slot_len (take q gs)
bases_rise [] p q l h = absurd (omega (arith, h))
bases_rise (names ∷ rest) p zero l h = absurd (omega (arith, l))
bases_rise (names ∷ rest) zero (suc q) l h = omega arith
bases_rise (names ∷ rest) (suc p) (suc q) l h = omega (arith, bases_rise rest p q (omega (arith, l)) (omega (arith, h)))

explicit_rise : (gs : Groups) (p g q h : ℕ) → 0 < g → g < length (groups_of gs p) → 0 < h → h < length (groups_of gs q) → p < q →
    explicit_slot gs p g + 2 ≤ explicit_slot gs q h
explicit_rise gs p g q h gs0 gl hs0 hl l =
    let here : q < length gs = has_pattern gs q h hl in
    omega (arith, bases_rise gs p q l here, gs0, gl, hs0)

explicit_one : (gs : Groups) (p g q h : ℕ) → 0 < g → g < length (groups_of gs p) → 0 < h → h < length (groups_of gs q)
    → explicit_slot gs p g ≤ explicit_slot gs q h + 1 → explicit_slot gs q h ≤ explicit_slot gs p g + 1 → (p ≡ q) × (g ≡ h)
explicit_one gs p g q h gs0 gl hs0 hl a b = elim (cases_lt p q) [
  | inl l ↦ absurd (omega (arith, explicit_rise gs p g q h gs0 gl hs0 hl l, b))
  | inr m ↦ elim (cases_lt q p) [
    | inl l ↦ absurd (omega (arith, explicit_rise gs q h p g hs0 hl gs0 gl l, a))
    | inr n ↦
        let same : p ≡ q = omega (arith, m, n) in
        let base : explicit_slot_len (take p gs) ≡ explicit_slot_len (take q gs) = ap (λ (i : ℕ). explicit_slot_len (take i gs)) same in
        (same, omega (arith, base, a, b, gs0, hs0))
  ]
]

known_one : (gs : Groups) (a p g b q h : ℕ) → IsKnown gs a p g → IsKnown gs b q h → a ≤ b + 1 → b ≤ a + 1 → (p ≡ q) × (g ≡ h)
known_one gs a p g b q h x y l m = elim x.1 [
  | inl v ↦ elim y.1 [
    | inl w ↦ (omega (arith, v.1, w.1, l, m), omega (arith, v.0, w.0))
    | inr w ↦ absurd (omega (arith, implicit_below gs a p g x v.0, w.1, m))
  ]
  | inr v ↦ elim y.1 [
    | inl w ↦ absurd (omega (arith, implicit_below gs b q h y w.0, v.1, l))
    | inr w ↦ explicit_one gs p g q h v.0 x.0 w.0 y.0 (omega (arith, v.1, w.1, l)) (omega (arith, v.1, w.1, m))
  ]
]

pub slot_of_one : (gs : Groups) (k p g q h : ℕ) → IsSlotOf gs k p g → IsSlotOf gs k q h → (p ≡ q) × (g ≡ h)
slot_of_one gs k p g q h x y =
    let m = near gs k p g x in
    let n = near gs k q h y in
    known_one gs m.first p g n.first q h m.known n.known (omega (arith, m.from, n.upto)) (omega (arith, n.from, m.upto))

-- ---- each slot belongs to a group
two : (a k : ℕ) → a ≤ k → k ≤ a + 1 → (k ≡ a) ⊎ (k ≡ a + 1)
two a k l m = elim (cases_lt k (a + 1)) [
  | inl h ↦ inl (omega (arith, l, h))
  | inr h ↦ inr (omega (arith, m, h))
]

record IsHalf (n : ℕ) : Type 0 where
  pub half : ℕ
  pub from : half * 2 ≤ n
  pub upto : n ≤ half * 2 + 1

halves : (n : ℕ) → IsHalf n
halves zero = record { half = 0; from = omega arith; upto = omega arith }
halves (suc n) =
    let r = halves n in
    elim (cases_lt n (r.half * 2 + 1)) [
      | inl h ↦ record { half = r.half; from = omega (arith, r.from); upto = omega (arith, h) }
      | inr h ↦ record { half = r.half + 1; from = omega (arith, h); upto = omega (arith, r.upto) }
    ]

-- the explicit slot e, counted from the first of them, belongs to group g of pattern p
record IsExplicitAt (gs : Groups) (e : ℕ) : Type 0 where
  pub p : ℕ
  pub g : ℕ
  pub some : 0 < g
  pub below : g < length (groups_of gs p)
  pub from : explicit_slot_len (take p gs) + (g - 1) * 2 ≤ e
  pub upto : e ≤ explicit_slot_len (take p gs) + (g - 1) * 2 + 1

find_explicit : (gs : Groups) (e : ℕ) → e < explicit_slot_len gs → IsExplicitAt gs e
find_explicit [] e h = absurd (omega (arith, h))
find_explicit (names ∷ rest) e h = elim (cases_lt e ((length names - 1) * 2)) [
  | inl l ↦
      let r = halves e in
      record {
        p = 0;
        g = r.half + 1;
        some = omega arith;
        below = omega (arith, l, r.from);
        from = omega (arith, r.from);
        upto = omega (arith, r.upto);
      }
  | inr l ↦
      let r = find_explicit rest (e - (length names - 1) * 2) (omega (arith, h, l)) in
      record {
        p = suc r.p;
        g = r.g;
        some = r.some;
        below = r.below;
        from = omega (arith, l, r.from);
        upto = omega (arith, l, r.upto);
      }
]

pub slot_of_some : (gs : Groups) (k : ℕ) → group_fault gs ≡ None → k < slot_len gs → (p : ℕ) × (g : ℕ) × IsSlotOf gs k p g
slot_of_some gs k s h = elim (cases_lt k (implicit_slot_len gs)) [
  | inl l ↦
      let r = halves k in
      let here : r.half < length gs = omega (arith, l, r.from) in
      (r.half, 0, (r.half * 2, slot_implicit gs r.half (has_group gs r.half s here), two (r.half * 2) k r.from r.upto))
  | inr l ↦
      let r = find_explicit gs (k - implicit_slot_len gs) (omega (arith, h, l)) in
      let from : explicit_slot gs r.p r.g ≤ k = omega (arith, l, r.from) in
      let upto : k ≤ explicit_slot gs r.p r.g + 1 = omega (arith, l, r.upto) in
      (r.p, r.g, (explicit_slot gs r.p r.g, slot_explicit gs r.p r.g r.some r.below, two (explicit_slot gs r.p r.g) k from upto))
]

-- ---- a name finds its group
none_under : {A : Type 0} {B : Type 0} (f : A → B) (o : Option A) → option_map f o ≡ None → o ≡ None
none_under f None h = refl
none_under f (Some x) h = absurd (grind (arith, h))

position_here : {X : Type 0} (p : X → Bool) (xs : List X) (y : X) (ys : List X) → position p xs ≡ None → p y ≡ true →
    position p (xs ++ y ∷ ys) ≡ Some (length xs)
position_here p [] y ys n h = position_first p y ys h
position_here p (x ∷ xs) y ys n h = elim (cases_Bool (p x)) [
  | inl e ↦ none_is_not 0 (position p (x ∷ xs)) n (position_first p x xs e)
  | inr e ↦
      let rest : position p xs ≡ None = none_under suc (position p xs) (sym (position_later p x xs e) ∙ n) in
      position_later p x (xs ++ y ∷ ys) e ∙ ap (option_map suc) (position_here p xs y ys rest h)
]

-- a group with no fault has no name of an earlier one
name_is_new : (p : ℕ) (earlier : List (Option Name)) (name : Name) → group_fault_after p earlier (Some name) ≡ None →
    position (is_named name) earlier ≡ None
name_is_new p earlier name h = elim (cases_Bool (nat_lt greatest_index (length earlier))) [
  | inl e ↦ none_is_not (TooManyGroups p (length earlier)) (group_fault_after p earlier (Some name)) h
      (cond-true (nat_lt greatest_index (length earlier)) _ _ e)
  | inr e ↦
      let named : name_fault p earlier (Some name) ≡ None = sym (cond-false (nat_lt greatest_index (length earlier)) _ _ e) ∙ h in
      elim (cases_Bool (is_some (position (is_named name) earlier))) [
        | inl f ↦ none_is_not (Duplicate p name) (name_fault p earlier (Some name)) named
            (cond-true (is_some (position (is_named name) earlier)) _ _ f)
        | inr f ↦ not_some (position (is_named name) earlier) f
      ]
]

some_inner : {A : Type 0} (a b : A) → Some a ≡ Some b → a ≡ b
some_inner a b h = grind (arith, h)

found_after : (p : ℕ) (earlier rest : List (Option Name)) (g : ℕ) (name : Name) → fault_after p earlier rest ≡ None →
    slice_get rest g ≡ Some (Some name)
    → position (is_named name) (earlier ++ rest) ≡ Some (length earlier + g)
found_after p earlier [] g name h e = none_is_not (Some name) (slice_get [] g) refl e
found_after p earlier (x ∷ rest) zero name h e =
    let is : x ≡ Some name = some_inner x (Some name) e in
    let first : group_fault_after p earlier x ≡ None = none_first (group_fault_after p earlier x)
    (fault_after p (earlier ++ x ∷ []) rest) h in
    let fresh : position (is_named name) earlier ≡ None = name_is_new p earlier name (ap (group_fault_after p earlier) (sym is) ∙ first) in
    let self : is_named name x ≡ true = ap (is_named name) is ∙ bytes_eq_from name name refl in
    let zero_more : length earlier ≡ length earlier + 0 = omega arith in
    position_here (is_named name) earlier x rest fresh self ∙ ap Some zero_more
found_after p earlier (x ∷ rest) (suc g) name h e =
    let ih = found_after p (earlier ++ x ∷ []) rest g name (none_second (group_fault_after p earlier x)
    (fault_after p (earlier ++ x ∷ []) rest) h) e in
    let count : length (earlier ++ x ∷ []) + g ≡ length earlier + suc g = omega (arith, length-append earlier (x ∷ [])) in
    ap (position (is_named name)) (sym (append_assoc earlier (x ∷ []) rest)) ∙ ih ∙ ap Some count

index_of_name : (p : ℕ) (names : List (Option Name)) (g : ℕ) (name : Name) → pattern_fault p names ≡ None →
    slice_get names g ≡ Some (Some name) → position (is_named name) names ≡ Some g
index_of_name p [] g name h e = none_is_not (Some name) (slice_get [] g) refl e
index_of_name p (Some x ∷ rest) g name h e = none_is_not (FirstMustBeUnnamed p) (pattern_fault p (Some x ∷ rest)) h refl
index_of_name p (None ∷ rest) zero name h e = none_is_not name None refl (some_inner None (Some name) e)
index_of_name p (None ∷ rest) (suc g) name h e =
    let count : 1 + g ≡ suc g = omega arith in
    found_after p (None ∷ []) rest g name h e ∙ ap Some count

-- each pattern's groups are without a fault, whatever number the pattern has
record IsSoundPattern (names : List (Option Name)) : Type 0 where
  pub p : ℕ
  pub sound : pattern_fault p names ≡ None

sound_number : (p : ℕ) (names : List (Option Name)) → numbered_fault p names ≡ None → IsSoundPattern names
sound_number p names h = elim (cases_Bool (nat_lt greatest_index p)) [
  | inl e ↦ none_is_not (TooManyPatterns p) (numbered_fault p names) h (cond-true (nat_lt greatest_index p) _ _ e)
  | inr e ↦ record { p = p; sound = sym (cond-false (nat_lt greatest_index p) _ _ e) ∙ h }
]

sound_pattern : (p : ℕ) (gs : Groups) (q : ℕ) → names_fault p gs ≡ None → q < length gs → IsSoundPattern (groups_of gs q)
sound_pattern p [] q h l = absurd (omega (arith, l))
sound_pattern p (names ∷ rest) zero h l = sound_number p names (none_first (numbered_fault p names) (names_fault (p + 1) rest) h)
sound_pattern p (names ∷ rest) (suc q) h l = sound_pattern (p + 1) rest q
    (none_second (numbered_fault p names) (names_fault (p + 1) rest) h) (omega (arith, l))

inner_name : (o : Option (Option Name)) (name : Name) → option_and_then (λ n. n) o ≡ Some name → o ≡ Some (Some name)
inner_name None name h = none_is_not name None refl h
inner_name (Some n) name h = ap Some h

pub index_from_name : (gs : Groups) (p g : ℕ) (name : Name) → group_fault gs ≡ None → to_name gs p g ≡ Some name →
    to_index gs p name ≡ Some g
index_from_name gs p g name s h =
    let at : slice_get (groups_of gs p) g ≡ Some (Some name) = inner_name (slice_get (groups_of gs p) g) name h in
    let below : g < length (groups_of gs p) = slice_get_within (groups_of gs p) g (Some name) at in
    let here = sound_pattern 0 gs p (no_names_fault gs s) (has_pattern gs p g below) in
    index_of_name here.p (groups_of gs p) g name here.sound at

named_is : (name : Name) (o : Option Name) → is_named name o ≡ true → o ≡ Some name
named_is name None h = absurd (grind (arith, h))
named_is name (Some other) h = ap Some (sym (bytes_eq_path name other h))

pub name_from_index : (gs : Groups) (p g : ℕ) (name : Name) → to_index gs p name ≡ Some g → to_name gs p g ≡ Some name
name_from_index gs p g name h =
    let place = position-Some (is_named name) (groups_of gs p) g None h in
    let at : slice_get (groups_of gs p) g ≡ Some (get_or (groups_of gs p) g None) = slice_get-get_or (groups_of gs p) g None place.0 in
    let is : get_or (groups_of gs p) g None ≡ Some name = named_is name (get_or (groups_of gs p) g None) place.1 in
    ap (option_and_then (λ (n : Option Name). n)) at ∙ is

pub names_agree : (gs : Groups) (p g : ℕ) (name : Name) → group_fault gs ≡ None → (to_index gs p name ≡ Some g) ↔
    (to_name gs p g ≡ Some name)
names_agree gs p g name s = (name_from_index gs p g name, index_from_name gs p g name s)
