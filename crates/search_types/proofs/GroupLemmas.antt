-- Groups by pattern: where they are found, and how many slots they have.
use Rattle.std.proofs.Common.{◌≡◌, ◌≢◌, ◌==◌, ℕ, zero, suc, ◌+◌, ◌-◌, ◌*◌, ◌<◌, ◌≤◌, true, false, List, [], ◌∷◌, ◌++◌, length, take, drop}
use Rattle.std.proofs.Common.{get_or, refl, sym, ap, ◌∙◌, subst, arith, rules, Some, None}
use Rattle.std.specs.Prelude.{Option, nat_lt, if◌then◌else◌, slice_get}
use Rattle.std.specs.Option.{option_or, option_and_then}
use Rattle.std.proofs.lemmas.Bool.{cond-true, cond-false, lt-ltb, ne_eqb}
use Rattle.std.specs.Iterator.{MakesProgress, item_count}
use Rattle.search_core.specs.Index.{greatest_index}
use Rattle.search_types.specs.Groups.{Name, Groups, groups_of, all_group_len, explicit_slot_len, implicit_slot_len, slot_len, explicit_slot}
use Rattle.search_types.specs.Groups.{to_name, slot}
use Rattle.search_types.specs.GroupFaults.{numbered_fault, names_fault, slots_fault, slots_end, group_fault}
use Rattle.search_types.specs.GroupPlaces.{starts_from, IsLaidOut, named_from, all_named_from, left_from}

-- ---- the groups of one pattern
pub groups_of_past : (gs : Groups) (p : ℕ) → length gs ≤ p → groups_of gs p ≡ []
groups_of_past [] p h = refl
groups_of_past (names ∷ rest) zero h = absurd (omega (arith, h))
groups_of_past (names ∷ rest) (suc p) h = groups_of_past rest p (omega (arith, h))

pub groups_of_at : (gs : Groups) (p : ℕ) (d : List (Option Name)) → p < length gs → get_or gs p d ≡ groups_of gs p
groups_of_at [] p d h = absurd (omega (arith, h))
groups_of_at (names ∷ rest) zero d h = refl
groups_of_at (names ∷ rest) (suc p) d h = groups_of_at rest p d (omega (arith, h))

pub group_len_in_slots : (gs : Groups) (p : ℕ) → length (groups_of gs p) * 2 ≤ slot_len gs
group_len_in_slots [] p = omega arith
group_len_in_slots (names ∷ rest) zero = omega arith
group_len_in_slots (names ∷ rest) (suc p) = omega (arith, group_len_in_slots rest p)

-- ---- no fault
pub none_first : {A : Type 0} (a b : Option A) → option_or a b ≡ None → a ≡ None
none_first None b h = refl
none_first (Some x) b h = h

pub none_second : {A : Type 0} (a b : Option A) → option_or a b ≡ None → b ≡ None
none_second None b h = h
none_second (Some x) b h = absurd (grind (arith, h))

numbered_some : (p : ℕ) (names : List (Option Name)) → numbered_fault p names ≡ None → 0 < length names
numbered_some p [] h = absurd (grind (arith, h))
numbered_some p (name ∷ rest) h = omega arith

names_some : (p : ℕ) (gs : Groups) → names_fault p gs ≡ None → (q : ℕ) → q < length gs → 0 < length (groups_of gs q)
names_some p [] h q l = absurd (omega (arith, l))
names_some p (names ∷ rest) h zero l = numbered_some p names (none_first (numbered_fault p names) (names_fault (p + 1) rest) h)
names_some p (names ∷ rest) h (suc q) l = names_some (p + 1) rest (none_second (numbered_fault p names) (names_fault (p + 1) rest) h) q
    (omega (arith, l))

names_twice : (p : ℕ) (gs : Groups) → names_fault p gs ≡ None → slot_len gs ≡ all_group_len gs * 2
names_twice p [] h = refl
names_twice p (names ∷ rest) h =
    let some = numbered_some p names (none_first (numbered_fault p names) (names_fault (p + 1) rest) h) in
    let ih = names_twice (p + 1) rest (none_second (numbered_fault p names) (names_fault (p + 1) rest) h) in
    omega (arith, some, ih)

pub no_names_fault : (gs : Groups) → group_fault gs ≡ None → names_fault 0 gs ≡ None
no_names_fault gs h = none_first (names_fault 0 gs) (slots_fault 0 (implicit_slot_len gs) gs) h

-- each pattern has a group
pub has_group : (gs : Groups) (p : ℕ) → group_fault gs ≡ None → p < length gs → 0 < length (groups_of gs p)
has_group gs p h l = names_some 0 gs (no_names_fault gs h) p l

pub slots_twice : (gs : Groups) → group_fault gs ≡ None → slot_len gs ≡ all_group_len gs * 2
slots_twice gs h = names_twice 0 gs (no_names_fault gs h)

-- ---- the starts of the explicit slots
pub length-starts_from : (start : ℕ) (gs : Groups) → length (starts_from start gs) ≡ length gs
length-starts_from start [] = refl
length-starts_from start (names ∷ rest) = ap suc (length-starts_from (slots_end start names) rest)

pub start_at : (start : ℕ) (gs : Groups) (p d : ℕ) → p < length gs → get_or (starts_from start gs) p d ≡ start + explicit_slot_len
    (take p gs)
start_at start [] p d h = absurd (omega (arith, h))
start_at start (names ∷ rest) zero d h = omega arith
start_at start (names ∷ rest) (suc p) d h = omega (arith, start_at (slots_end start names) rest p d (omega (arith, h)))

explicit_start_in_slots : (gs : Groups) (p g : ℕ) → p < length gs → 0 < g → g < length (groups_of gs p) →
    explicit_slot_len (take p gs) + (g - 1) * 2 + 2 ≤ explicit_slot_len gs
explicit_start_in_slots [] p g h s l = absurd (omega (arith, h))
explicit_start_in_slots (names ∷ rest) zero g h s l = omega (arith, s, l)
explicit_start_in_slots (names ∷ rest) (suc p) g h s l = omega (arith, explicit_start_in_slots rest p g (omega (arith, h)) s l)

-- a group that exists has its pattern
pub has_pattern : (gs : Groups) (p g : ℕ) → g < length (groups_of gs p) → p < length gs
has_pattern [] p g h = absurd (omega (arith, h))
has_pattern (names ∷ rest) zero g h = omega arith
has_pattern (names ∷ rest) (suc p) g h = omega (arith, has_pattern rest p g h)

pub explicit_slot_in_range : (gs : Groups) (p g : ℕ) → 0 < g → g < length (groups_of gs p) → explicit_slot gs p g + 2 ≤ slot_len gs
explicit_slot_in_range gs p g s l = omega (arith, explicit_start_in_slots gs p g (has_pattern gs p g l) s l)

-- ---- slots, by the starts that are kept
module _ (gs seen : Groups) (starts : List ℕ) (len p g n : ℕ) (laid : IsLaidOut gs starts len) (view : gs ≡ seen)
    (within : n ≡ length (groups_of seen p)) (below : g < n) where
  within_gs : g < length (groups_of gs p)
  within_gs =
      let P : Groups → Type 0 = λ xs. g < length (groups_of xs p) in
      let h : g < length (groups_of seen p) = omega (arith, within, below) in
      subst P (sym view) h

  pub within_starts : p < length starts
  within_starts =
      let here : p < length gs = has_pattern gs p g within_gs in
      omega (arith, here, ap length laid.starts_are, length-starts_from (implicit_slot_len gs) gs)

  pub explicit_slot_is : (start d : ℕ) → start ≡ get_or starts p d → start + (g - 1) * 2 ≡ explicit_slot seen p g
  explicit_slot_is start d e =
      let here : p < length gs = has_pattern gs p g within_gs in
      let at : get_or starts p d ≡ implicit_slot_len gs + explicit_slot_len (take p gs)
      = ap (λ (xs : List ℕ). get_or xs p d) laid.starts_are ∙ start_at (implicit_slot_len gs) gs p d here in
      let h : start + (g - 1) * 2 ≡ explicit_slot gs p g = omega (arith, e, at) in
      h ∙ ap (λ (xs : Groups). explicit_slot xs p g) view

-- ---- the groups of all patterns
named_step_suc : (p k : ℕ) (names : List (Option Name)) (g : ℕ) → g < length names
    → named_from p k (drop g names) ≡ (p, k, option_and_then (λ name. name) (slice_get names g)) ∷ named_from p (k + 1) (drop (suc g) names)
named_step_suc p k [] g h = absurd (omega (arith, h))
named_step_suc p k (None ∷ names) zero h = refl
named_step_suc p k (Some name ∷ names) zero h = refl
named_step_suc p k (name ∷ names) (suc g) h = named_step_suc p k names g (omega (arith, h))

named_step : (p k : ℕ) (names : List (Option Name)) (g : ℕ) → g < length names
    → named_from p k (drop g names) ≡ (p, k, option_and_then (λ name. name) (slice_get names g)) ∷ named_from p (k + 1) (drop (g + 1) names)
named_step p k names g h =
    let e : suc g ≡ g + 1 = omega arith in
    named_step_suc p k names g h ∙ ap (λ n. (p, k, option_and_then (λ name. name) (slice_get names g)) ∷ named_from p (k + 1)
    (drop n names)) e

named_past : (p k : ℕ) (names : List (Option Name)) (g : ℕ) → length names ≤ g → named_from p k (drop g names) ≡ []
named_past p k [] zero h = refl
named_past p k [] (suc g) h = refl
named_past p k (name ∷ names) zero h = absurd (omega (arith, h))
named_past p k (name ∷ names) (suc g) h = named_past p k names g (omega (arith, h))

all_named_suc : (k : ℕ) (gs : Groups) (p : ℕ) → all_named_from k (drop p gs) ≡ named_from k 0 (groups_of gs p)
    ++ all_named_from (k + 1) (drop (suc p) gs)
all_named_suc k [] zero = refl
all_named_suc k [] (suc p) = refl
all_named_suc k (names ∷ rest) zero = refl
all_named_suc k (names ∷ rest) (suc p) = all_named_suc k rest p

all_named_at : (k : ℕ) (gs : Groups) (p : ℕ) → all_named_from k (drop p gs) ≡ named_from k 0 (groups_of gs p)
    ++ all_named_from (k + 1) (drop (p + 1) gs)
all_named_at k gs p =
    let e : suc p ≡ p + 1 = omega arith in
    all_named_suc k gs p ∙ ap (λ n. named_from k 0 (groups_of gs p) ++ all_named_from (k + 1) (drop n gs)) e

all_named_past : (k : ℕ) (gs : Groups) (p : ℕ) → length gs ≤ p → all_named_from k (drop p gs) ≡ []
all_named_past k [] zero h = refl
all_named_past k [] (suc p) h = refl
all_named_past k (names ∷ rest) zero h = absurd (omega (arith, h))
all_named_past k (names ∷ rest) (suc p) h = all_named_past k rest p (omega (arith, h))

pub left_from_start : (gs : Groups) → left_from gs 0 0 ≡ all_named_from 0 gs
left_from_start gs = sym (all_named_at 0 gs 0)

pub left_from_past : (gs : Groups) (p g : ℕ) → length gs ≤ p → left_from gs p g ≡ []
left_from_past gs p g h =
    let none : groups_of gs p ≡ [] = groups_of_past gs p h in
    let short : length (groups_of gs p) ≤ g = omega (arith, ap length none) in
    let first : named_from p g (drop g (groups_of gs p)) ≡ [] = named_past p g (groups_of gs p) g short in
    let second : all_named_from (p + 1) (drop (p + 1) gs) ≡ [] = all_named_past (p + 1) gs (p + 1) (omega (arith, h)) in
    ap (λ (xs : List (ℕ × ℕ × Option Name)). xs ++ all_named_from (p + 1) (drop (p + 1) gs)) first ∙ second

-- the next group, from the view of an iterator that is at group g of pattern p
pub left_step : (gs : Groups) (p g q : ℕ) (name : Option Name) (seen : List (ℕ × ℕ × Option Name)) → left_from gs p g ≡ seen → q ≡ p →
    g < length (groups_of gs p)
    → name ≡ to_name gs q g → seen ≡ (q, g, name) ∷ left_from gs p (g + 1)
left_step gs p g q name seen v e h n =
    let same : name ≡ to_name gs p g = n ∙ ap (λ k. to_name gs k g) e in
    let step : left_from gs p g ≡ (p, g, to_name gs p g) ∷ left_from gs p (g + 1)
    = ap (λ (xs : List (ℕ × ℕ × Option Name)). xs ++ all_named_from (p + 1) (drop (p + 1) gs)) (named_step p g (groups_of gs p) g h) in
    sym v ∙ step ∙ ap (λ k. (k, g, to_name gs p g) ∷ left_from gs p (g + 1)) (sym e)
    ∙ ap (λ (m : Option Name). (q, g, m) ∷ left_from gs p (g + 1)) (sym same)

-- if that is the last group of its pattern, the next pattern's first one comes after it
left_next : (gs : Groups) (p g : ℕ) → length (groups_of gs p) ≤ g → left_from gs p g ≡ left_from gs (p + 1) 0
left_next gs p g h =
    ap (λ (xs : List (ℕ × ℕ × Option Name)). xs ++ all_named_from (p + 1) (drop (p + 1) gs)) (named_past p g (groups_of gs p) g h)
    ∙ all_named_at (p + 1) gs (p + 1)

pub left_step_last : (gs : Groups) (p g q : ℕ) (name : Option Name) (seen : List (ℕ × ℕ × Option Name)) → left_from gs p g ≡ seen → q ≡ p →
    g < length (groups_of gs p)
    → length (groups_of gs p) ≤ g + 1 → name ≡ to_name gs q g → seen ≡ (q, g, name) ∷ left_from gs (p + 1) 0
left_step_last gs p g q name seen v e h last n =
    left_step gs p g q name seen v e h n ∙ ap (λ (xs : List (ℕ × ℕ × Option Name)). (q, g, name) ∷ xs) (left_next gs p (g + 1) last)

module _ (gs seen : Groups) (starts : List ℕ) (len p g n : ℕ) (laid : IsLaidOut gs starts len) (view : gs ≡ seen)
    (within : n ≡ length (groups_of seen p)) (below : g < n) (some : g ≢ 0) where
  pub explicit_fits : (start d : ℕ) → start ≡ get_or starts p d → start + (g - 1) * 2 ≤ greatest_index
  explicit_fits start d e =
      let is : start + (g - 1) * 2 ≡ explicit_slot seen p g = explicit_slot_is gs seen starts len p g n laid view within below start d e in
      let same : explicit_slot gs p g ≡ explicit_slot seen p g = ap (λ (xs : Groups). explicit_slot xs p g) view in
      let above : 0 < g = omega (arith, some) in
      let inside : explicit_slot gs p g + 2 ≤ slot_len gs = explicit_slot_in_range gs p g above
      (within_gs gs seen starts len p g n laid view within below) in
      omega (arith, is, same, inside, laid.len_is, laid.in_range)

  pub slot_is : (start d : ℕ) → start ≡ get_or starts p d → Some (start + (g - 1) * 2) ≡ slot seen p g
  slot_is start d e =
      let is : start + (g - 1) * 2 ≡ explicit_slot seen p g = explicit_slot_is gs seen starts len p g n laid view within below start d e in
      let here : nat_lt g (length (groups_of seen p)) ≡ true = lt-ltb g (length (groups_of seen p)) (omega (arith, within, below)) in
      let other : (g == 0) ≡ false = ne_eqb g 0 some in
      sym (cond-true (nat_lt g (length (groups_of seen p))) (Some (if g == 0 then p * 2 else explicit_slot seen p g)) None here
      ∙ ap Some (cond-false (g == 0) (p * 2) (explicit_slot seen p g) other) ∙ ap Some (sym is))

-- ---- the names of one pattern's groups
drop_step_suc : (names : List (Option Name)) (g : ℕ) → g < length names →
    drop g names ≡ option_and_then (λ name. name) (slice_get names g) ∷ drop (suc g) names
drop_step_suc [] g h = absurd (omega (arith, h))
drop_step_suc (None ∷ names) zero h = refl
drop_step_suc (Some name ∷ names) zero h = refl
drop_step_suc (name ∷ names) (suc g) h = drop_step_suc names g (omega (arith, h))

-- the next name, from the view of an iterator that is at group g
pub pattern_step : (gs : Groups) (p g : ℕ) (name : Option Name) (seen : List (Option Name)) → drop g (groups_of gs p) ≡ seen →
    g < length (groups_of gs p) → name ≡ to_name gs p g
    → seen ≡ name ∷ drop (g + 1) (groups_of gs p)
pattern_step gs p g name seen v h n =
    let e : suc g ≡ g + 1 = omega arith in
    sym v ∙ drop_step_suc (groups_of gs p) g h ∙ ap (λ (m : Option Name). m ∷ drop (suc g) (groups_of gs p)) (sym n)
    ∙ ap (λ k. name ∷ drop k (groups_of gs p)) e

-- an iterator that yields what is seen as the first element of its list leaves the rest
pub step_goes : {A B : Type 0} (x : A) (y : B) (s t : List B) → s ≡ y ∷ t →
    MakesProgress {S = List B} {A = A} (λ _. Unit {0}) (item_count {S = List B} {A = B} (λ rest. rest)) s (Some x) t
step_goes x y s t e =
    let l = ap length e in
    let h : length t < length s = omega (arith, l) in
    record { on = λ f. search (rules, h); keeps = search rules; rests = search rules }
