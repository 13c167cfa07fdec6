-- Ends, offset by offset: the ends at these offsets that count, each once, in reading order.
use Rattle.std.proofs.Common.{◌≡◌, ◌≢◌, ℕ, zero, suc, ◌<◌, ◌≤◌, Bool, true, false, ◌||◌, List, [], ◌∷◌, ◌++◌, if◌then◌else◌, refl, sym, ap}
use Rattle.std.proofs.Common.{◌∙◌, ⊎_elim, subst, arith}
use Rattle.std.specs.Prelude.{⊤}
use Rattle.std.proofs.lemmas.Bool.Decides.{Decides-eqb}
use Rattle.std.proofs.lemmas.List.{append-nil}
use Rattle.std.proofs.lemmas.List.Elements.{filter-append}
use Rattle.std.proofs.lemmas.List.Folds.{list_any-append}
use Rattle.std.specs.List.{filter}
use Rattle.nfa_core.specs.Places.{same_pair}
use Rattle.nfa_core.specs.Walks.{has, Has, HasNoneTwice}
use Rattle.nfa_core.specs.Ways.{offset_of}
use Rattle.nfa_core.proofs.ForCallers.{none_in, has_or_not, has_cons, has_first, has_later, of_append, has_filter, pairs_equal, place_zero}
use Rattle.lazy_dfa.specs.ScanLaws.{is_past}
use Rattle.lazy_dfa.specs.OverlappingLaws.{ends_at, ends_by_offset, IsInReadingOrder}
use Rattle.lazy_dfa.proofs.HalfSearches.TurnLemmas.{place_later}
use Rattle.lazy_dfa.proofs.HalfSearches.LastLemmas.{is_at, none_there, not_past}

-- ---- the part of a list that passes a test

if_passed : (b : Bool) (test : ℕ × ℕ → Bool) (x y : ℕ × ℕ) (ys kept : List (ℕ × ℕ)) → test y ≡ b →
    (Has same_pair x kept → (test x ≡ true) × Has same_pair x ys) → Has same_pair x (if b then y ∷ kept else kept) →
    (test x ≡ true) × Has same_pair x (y ∷ ys)
if_passed true test x y ys kept e later h = ⊎_elim
    (λ (same : x ≡ y). (
      ap test same ∙ e,
      subst (λ (z : ℕ × ℕ). Has same_pair z (y ∷ ys)) (sym same) (has_first same_pair pairs_equal y ys),
    ))
    (λ (behind : Has same_pair x kept). let p = later behind in (p.0, has_later same_pair x y ys p.1))
    (has_cons same_pair pairs_equal x y kept h)
if_passed false test x y ys kept e later h = let p = later h in (p.0, has_later same_pair x y ys p.1)

-- each element of this part passes the test, and is in the list
pub passed : (test : ℕ × ℕ → Bool) (x : ℕ × ℕ) (xs : List (ℕ × ℕ)) → Has same_pair x (filter test xs) → (test x ≡ true) × Has same_pair x xs
passed test x [] there = none_in same_pair x _ there
passed test x (y ∷ ys) there = if_passed (test y) test x y ys (filter test ys) refl (λ later. passed test x ys later) there

if_twice : (b : Bool) (test : ℕ × ℕ → Bool) (y : ℕ × ℕ) (kept : List (ℕ × ℕ)) → test y ≡ b → filter test kept ≡ kept →
    filter test (if b then y ∷ kept else kept) ≡ (if b then y ∷ kept else kept)
if_twice true test y kept e same =
    ap (λ (b : Bool). if b then y ∷ filter test kept else filter test kept) e ∙ ap (λ (l : List (ℕ × ℕ)). y ∷ l) same
if_twice false test y kept e same = same

passed_twice : (test : ℕ × ℕ → Bool) (xs : List (ℕ × ℕ)) → filter test (filter test xs) ≡ filter test xs
passed_twice test [] = refl
passed_twice test (y ∷ ys) = if_twice (test y) test y (filter test ys) refl (passed_twice test ys)

if_once : (b : Bool) (y : ℕ × ℕ) (kept : List (ℕ × ℕ)) → (b ≡ true → has same_pair y kept ≡ false) → HasNoneTwice same_pair kept →
    HasNoneTwice same_pair (if b then y ∷ kept else kept)
if_once true y kept fresh once = (fresh refl, once)
if_once false y kept fresh once = once

passed_once : (test : ℕ × ℕ → Bool) (xs : List (ℕ × ℕ)) → HasNoneTwice same_pair xs → HasNoneTwice same_pair (filter test xs)
passed_once test [] once = tt
passed_once test (y ∷ ys) once =
    if_once (test y) y (filter test ys) (λ e. has_filter same_pair pairs_equal test y ys e ∙ once.0) (passed_once test ys once.1)

-- ---- two lists one after the other

lacks_both : (x : ℕ × ℕ) (xs ys : List (ℕ × ℕ)) → has same_pair x xs ≡ false → has same_pair x ys ≡ false →
    has same_pair x (xs ++ ys) ≡ false
lacks_both x xs ys e f = list_any-append (same_pair x) xs ys ∙ ap (λ (b : Bool). b || has same_pair x ys) e ∙ f

once_behind : (xs ys : List (ℕ × ℕ)) → HasNoneTwice same_pair xs → HasNoneTwice same_pair ys →
    ((x : ℕ × ℕ) → Has same_pair x xs → has same_pair x ys ≡ false) → HasNoneTwice same_pair (xs ++ ys)
once_behind [] ys once later apart = later
once_behind (x ∷ xs) ys once later apart = (
  lacks_both x xs ys once.0 (apart x (has_first same_pair pairs_equal x xs)),
  once_behind xs ys once.1 later (λ y there. apart y (has_later same_pair y x xs there)),
)

-- no end lies past one that comes later in the list
abbrev IsOrdered : Bool → List (ℕ × ℕ) → Type 0
IsOrdered is_reverse [] = ⊤
IsOrdered is_reverse (x ∷ xs) = ((y : ℕ × ℕ) → Has same_pair y xs → is_past is_reverse x.0 y.0 ≡ false) × IsOrdered is_reverse xs

ordered_behind : (is_reverse : Bool) (xs ys : List (ℕ × ℕ)) → IsOrdered is_reverse xs → IsOrdered is_reverse ys →
    ((x y : ℕ × ℕ) → Has same_pair x xs → Has same_pair y ys → is_past is_reverse x.0 y.0 ≡ false) → IsOrdered is_reverse (xs ++ ys)
ordered_behind is_reverse [] ys first later between = later
ordered_behind is_reverse (x ∷ xs) ys first later between = (
  (λ y there. of_append same_pair pairs_equal (λ (z : ℕ × ℕ). is_past is_reverse x.0 z.0 ≡ false) xs ys first.0
      (λ z behind. between x z (has_first same_pair pairs_equal x xs) behind) y there),
  ordered_behind is_reverse xs ys first.1 later (λ a b there behind. between a b (has_later same_pair a x xs there) behind),
)

ordered_within : (is_reverse : Bool) (xs : List (ℕ × ℕ)) →
    ((x y : ℕ × ℕ) → Has same_pair x xs → Has same_pair y xs → is_past is_reverse x.0 y.0 ≡ false) → IsOrdered is_reverse xs
ordered_within is_reverse [] all = tt
ordered_within is_reverse (x ∷ xs) all = (
  (λ y there. all x y (has_first same_pair pairs_equal x xs) (has_later same_pair y x xs there)),
  ordered_within is_reverse xs (λ a b f g. all a b (has_later same_pair a x xs f) (has_later same_pair b x xs g)),
)

order_parts : (is_reverse : Bool) (before behind : List (ℕ × ℕ)) (x y : ℕ × ℕ) → IsOrdered is_reverse (before ++ (x ∷ behind)) →
    Has same_pair y behind → is_past is_reverse x.0 y.0 ≡ false
order_parts is_reverse [] behind x y ordered there = ordered.0 y there
order_parts is_reverse (b ∷ before) behind x y ordered there = order_parts is_reverse before behind x y ordered.1 there

pub order_told : (is_reverse : Bool) (ends : List (ℕ × ℕ)) → IsOrdered is_reverse ends → IsInReadingOrder is_reverse ends
order_told is_reverse ends ordered before behind x y e there =
    order_parts is_reverse before behind x y (subst (λ (l : List (ℕ × ℕ)). IsOrdered is_reverse l) e ordered) there

-- ---- offsets

-- this many offsets from there on are distinct
abbrev pub HasRoom : Bool → ℕ → ℕ → Type 0
HasRoom false i n = ⊤
HasRoom true i n = n ≤ suc i

room_next : (is_reverse : Bool) (i n : ℕ) → HasRoom is_reverse i (suc n) → HasRoom is_reverse (offset_of is_reverse i 1) n
room_next false i n room = tt
room_next true i n room = omega (arith, room)

not_first : (is_reverse : Bool) (i n k : ℕ) → HasRoom is_reverse i (suc n) → k < n → offset_of is_reverse i (suc k) ≢ i
not_first false i n k room l e = omega (arith, e)
not_first true i n k room l e = omega (arith, room, l, e)

same_place : (is_reverse : Bool) (i : ℕ) → is_past is_reverse i i ≡ false
same_place is_reverse i =
    ap (λ (j : ℕ). is_past is_reverse i j) (sym (place_zero is_reverse i))
    ∙ ap (λ (j : ℕ). is_past is_reverse j (offset_of is_reverse i 0)) (sym (place_zero is_reverse i))
    ∙ not_past is_reverse i 0 0 (omega arith)

module _ (is_reverse : Bool) (counted : ℕ → Bool) (ends : List (ℕ × ℕ)) where
  abbrev by : ℕ → ℕ → List (ℕ × ℕ)
  by i n = ends_by_offset is_reverse counted ends i n

  if_there : (b : Bool) (i : ℕ) (x : ℕ × ℕ) → Has same_pair x (if b then filter (is_at i) ends else []) → (x.0 ≡ i) × Has same_pair x ends
  if_there true i x h = let p = passed (is_at i) x ends h in ((Decides-eqb x.0 i).0 p.0, p.1)
  if_there false i x h = none_in same_pair x _ h

  at_there : (i : ℕ) (x : ℕ × ℕ) → Has same_pair x (ends_at counted ends i) → (x.0 ≡ i) × Has same_pair x ends
  at_there i x h = if_there (counted i) i x h

  -- each of them is an end at one of the offsets
  abbrev IsAmong : ℕ → ℕ → ℕ × ℕ → Type 0
  IsAmong i n x = (k : ℕ) × (k < n) × (x.0 ≡ offset_of is_reverse i k) × Has same_pair x ends

  pub by_place_there : (n i : ℕ) (x : ℕ × ℕ) → Has same_pair x (by i n) → IsAmong i n x
  by_place_there zero i x h = none_in same_pair x _ h
  by_place_there (suc n) i x h =
      of_append same_pair pairs_equal (λ (y : ℕ × ℕ). IsAmong i (suc n) y) (ends_at counted ends i) (by (offset_of is_reverse i 1) n)
      (λ y here. let at = at_there i y here in (0, omega arith, at.0 ∙ sym (place_zero is_reverse i), at.1))
      (λ y later. let at = by_place_there n (offset_of is_reverse i 1) y later in let less = at.1 in
      (suc at.0, omega (arith, less), at.2 ∙ place_later is_reverse i at.0, at.3))
      x h

  -- none of the later offsets is the first one
  later_apart : (n i : ℕ) (x : ℕ × ℕ) → HasRoom is_reverse i (suc n) → x.0 ≡ i → Has same_pair x (by (offset_of is_reverse i 1) n) → ⊥
  later_apart n i x room at h =
      let there = by_place_there n (offset_of is_reverse i 1) x h in
      not_first is_reverse i n there.0 room there.1 (sym (place_later is_reverse i there.0) ∙ sym there.2 ∙ at)

  -- ---- at one offset

  head_same : (j : ℕ) → counted j ≡ true → filter (is_at j) (ends_at counted ends j) ≡ filter (is_at j) ends
  head_same j e = ap (λ (b : Bool). filter (is_at j) (if b then filter (is_at j) ends else [])) e ∙ passed_twice (is_at j) ends

  head_none : (i j : ℕ) → j ≢ i → filter (is_at j) (ends_at counted ends i) ≡ []
  head_none i j n = none_there (filter (is_at j) (ends_at counted ends i))
      (λ x h. let p = passed (is_at j) x (ends_at counted ends i) h in
      n (sym ((Decides-eqb x.0 j).0 p.0) ∙ (at_there i x p.1).0))

  later_none : (n i j : ℕ) → HasRoom is_reverse i (suc n) → j ≡ i → filter (is_at j) (by (offset_of is_reverse i 1) n) ≡ []
  later_none n i j room e = none_there (filter (is_at j) (by (offset_of is_reverse i 1) n))
      (λ x h. let p = passed (is_at j) x (by (offset_of is_reverse i 1) n) h in
      later_apart n i x room ((Decides-eqb x.0 j).0 p.0 ∙ e) p.1)

  two_parts : (j i n : ℕ) (first : List (ℕ × ℕ)) → filter (is_at j) (ends_at counted ends i) ≡ first →
      filter (is_at j) (by i (suc n)) ≡ first ++ filter (is_at j) (by (offset_of is_reverse i 1) n)
  two_parts j i n first e = filter-append (is_at j) (ends_at counted ends i) (by (offset_of is_reverse i 1) n)
      ∙ ap (λ (l : List (ℕ × ℕ)). l ++ filter (is_at j) (by (offset_of is_reverse i 1) n)) e

  best_there : (n i k j : ℕ) → HasRoom is_reverse i n → k < n → j ≡ offset_of is_reverse i k → counted j ≡ true →
      filter (is_at j) (by i n) ≡ filter (is_at j) ends
  best_there zero i k j room l at e = absurd (omega (arith, l))
  best_there (suc n) i zero j room l at e =
      let here : j ≡ i = at ∙ place_zero is_reverse i in
      two_parts j i n (filter (is_at j) ends)
      (ap (λ (p : ℕ). filter (is_at j) (ends_at counted ends p)) (sym here) ∙ head_same j e)
      ∙ ap (λ (l : List (ℕ × ℕ)). filter (is_at j) ends ++ l) (later_none n i j room here)
      ∙ append-nil (filter (is_at j) ends)
  best_there (suc n) i (suc k) j room l at e =
      let less : k < n = omega (arith, l) in
      two_parts j i n [] (head_none i j (λ same. not_first is_reverse i n k room less (sym at ∙ same)))
      ∙ best_there n (offset_of is_reverse i 1) k j (room_next is_reverse i n room) less (at ∙ sym (place_later is_reverse i k)) e

  -- at an offset that counts, they are the ends there, the preferred ones first
  module _ (i n : ℕ) (room : HasRoom is_reverse i n)
      (inside : (x : ℕ × ℕ) → Has same_pair x ends → (k : ℕ) × (k < n) × (x.0 ≡ offset_of is_reverse i k)) where
    none_here : (j : ℕ) → filter (is_at j) ends ≡ [] → filter (is_at j) (by i n) ≡ filter (is_at j) ends
    none_here j none = none_there (filter (is_at j) (by i n))
        (λ x h. let p = passed (is_at j) x (by i n) h in
        let there = by_place_there n i x p.1 in
        none_in same_pair x _ (subst (λ (l : List (ℕ × ℕ)). Has same_pair x l) none
        (has_filter same_pair pairs_equal (is_at j) x ends p.0 ∙ there.3)))
        ∙ sym none

    best_of : (j : ℕ) (kept : List (ℕ × ℕ)) → filter (is_at j) ends ≡ kept → counted j ≡ true →
        filter (is_at j) (by i n) ≡ filter (is_at j) ends
    best_of j [] is e = none_here j is
    best_of j (y ∷ ys) is e =
        let p = passed (is_at j) y ends (subst (λ (l : List (ℕ × ℕ)). Has same_pair y l) (sym is) (has_first same_pair pairs_equal y ys)) in
        let at = inside y p.1 in
        best_there n i at.0 j room at.1 (sym ((Decides-eqb y.0 j).0 p.0) ∙ at.2) e

    pub best_by_place : (j : ℕ) → counted j ≡ true → filter (is_at j) (by i n) ≡ filter (is_at j) ends
    best_by_place j e = best_of j (filter (is_at j) ends) refl e

    -- so an end is reported if and only if it is the end of a run
    pub has_by_place : (x : ℕ × ℕ) → counted x.0 ≡ true → has same_pair x (by i n) ≡ has same_pair x ends
    has_by_place x e =
        let here : is_at x.0 x ≡ true = (Decides-eqb x.0 x.0).1 refl in
        sym (has_filter same_pair pairs_equal (is_at x.0) x (by i n) here)
        ∙ ap (λ (l : List (ℕ × ℕ)). has same_pair x l) (best_by_place x.0 e)
        ∙ has_filter same_pair pairs_equal (is_at x.0) x ends here

  -- ---- each once, and in order

  if_kept_once : (b : Bool) (i : ℕ) → HasNoneTwice same_pair ends → HasNoneTwice same_pair (if b then filter (is_at i) ends else [])
  if_kept_once true i once = passed_once (is_at i) ends once
  if_kept_once false i once = tt

  pub once_by_place : (n i : ℕ) → HasRoom is_reverse i n → HasNoneTwice same_pair ends → HasNoneTwice same_pair (by i n)
  once_by_place zero i room once = tt
  once_by_place (suc n) i room once =
      once_behind (ends_at counted ends i) (by (offset_of is_reverse i 1) n) (if_kept_once (counted i) i once)
      (once_by_place n (offset_of is_reverse i 1) (room_next is_reverse i n room) once)
      (λ x here. ⊎_elim
      (λ (there : Has same_pair x (by (offset_of is_reverse i 1) n)). absurd (later_apart n i x room (at_there i x here).0 there))
      (λ (e : has same_pair x (by (offset_of is_reverse i 1) n) ≡ false). e)
      (has_or_not same_pair x (by (offset_of is_reverse i 1) n)))

  between_places : (i n : ℕ) (x y : ℕ × ℕ) → x.0 ≡ i → IsAmong (offset_of is_reverse i 1) n y → is_past is_reverse x.0 y.0 ≡ false
  between_places i n x y at there =
      ap (λ (j : ℕ). is_past is_reverse j y.0) (at ∙ sym (place_zero is_reverse i))
      ∙ ap (λ (j : ℕ). is_past is_reverse (offset_of is_reverse i 0) j) (there.2 ∙ place_later is_reverse i there.0)
      ∙ not_past is_reverse i 0 (suc there.0) (omega arith)

  pub ordered_by_place : (n i : ℕ) → IsOrdered is_reverse (by i n)
  ordered_by_place zero i = tt
  ordered_by_place (suc n) i =
      ordered_behind is_reverse (ends_at counted ends i) (by (offset_of is_reverse i 1) n)
      (ordered_within is_reverse (ends_at counted ends i)
      (λ x y f g. ap (λ (j : ℕ). is_past is_reverse j y.0) (at_there i x f).0 ∙ ap (λ (j : ℕ). is_past is_reverse i j) (at_there i y g).0
      ∙ same_place is_reverse i))
      (ordered_by_place n (offset_of is_reverse i 1))
      (λ x y f g. between_places i n x y (at_there i x f).0 (by_place_there n (offset_of is_reverse i 1) y g))
