-- Pairs of an offset and a state: when two are equal, and how many there are.
use Rattle.std.proofs.Common.{◌≡◌, ◌≢◌, ℕ, zero, suc, ◌+◌, ◌*◌, ◌<◌, ◌≤◌, true, false, Bool, List, [], ◌∷◌, ◌++◌, length, map, refl, sym}
use Rattle.std.proofs.Common.{ap, ◌∙◌, arith, ◌⊎◌, inl, inr, ⊎_elim}
use Rattle.std.proofs.lemmas.Bool.{cases_Bool}
use Rattle.std.proofs.lemmas.Bool.Decides.{Decides-eqb}
use Rattle.std.proofs.lemmas.Map.Keys.{IsDistinct-cons}
use Rattle.std.proofs.lemmas.Map.Steps.{length-le_from_distinct_below}
use Rattle.std.specs.List.{IsDistinct, AllByRecursion}
use Rattle.std.specs.Bool.{nat_eq}
use Rattle.std.specs.Cmp.{IsEquivalence}
use Rattle.std.proofs.lemmas.Map.Made.{length-le_from_is_member}
use Rattle.nfa_core.specs.Walks.{has, Has, HasNoneTwice, IsEquality, IsFinite}
use Rattle.nfa_core.specs.Places.{same_pair, nexts, StaysBelow, IsGraph}
use Rattle.nfa_core.proofs.MemberLemmas.{none_in, not_both, has_left, has_right, has_cons, has_first, has_same, has_later, of_append}

pub names_equal : IsEquality nat_eq
names_equal x y = Decides-eqb x y

pub pairs_equal : IsEquality same_pair
pairs_equal (a, b) (c, d) = (
  λ h. ⊎_elim
      (λ (e : nat_eq a c ≡ true). let g : nat_eq b d ≡ true = (rw e at h) in let i : a ≡ c = (Decides-eqb a c).0 e in
      let j : b ≡ d = (Decides-eqb b d).0 g in rw (i, j))
      (λ (e : nat_eq a c ≡ false). let g : false ≡ true = (rw e at h) in cc) (cases_Bool (nat_eq a c)),
  λ e. let i : nat_eq a c ≡ true = (Decides-eqb a c).1 (ap (λ (p : ℕ × ℕ). p.0) e) in let j : nat_eq b d ≡ true =
      (Decides-eqb b d).1 (ap (λ (p : ℕ × ℕ). p.1) e) in rw (i, j),
)

pub same_here : (k y x : ℕ) → same_pair (k, y) (k, x) ≡ nat_eq y x
same_here k y x = let e : nat_eq k k ≡ true = (Decides-eqb k k).1 refl in rw e

pub not_here : (j k y x : ℕ) → k < j → same_pair (j, y) (k, x) ≡ false
not_here j k y x less = ⊎_elim (λ (e : nat_eq j k ≡ true). let i : j ≡ k = (Decides-eqb j k).0 e in
    absurd (omega arith)) (λ (e : nat_eq j k ≡ false). rw e) (cases_Bool (nat_eq j k))

-- ---- names below n

apart : {A : Type 0} (same : A → A → Bool) (x : A) (xs : List A) → has same x xs ≡ false → AllByRecursion (λ y. same x y ≡ false) xs
apart same x [] h = tt
apart same x (y ∷ ys) h = ⊎_elim (λ (e : same x y ≡ true). let f : true ≡ false = (rw e at h) in cc)
    (λ (e : same x y ≡ false). (e, apart same x ys (rw e at h))) (cases_Bool (same x y))

distinct_from : {A : Type 0} (same : A → A → Bool) (xs : List A) → HasNoneTwice same xs → IsDistinct same xs
unfolding IsDistinct
distinct_from same [] once = tt
distinct_from same (x ∷ xs) once = IsDistinct-cons same x xs (apart same x xs once.0) (distinct_from same xs once.1)

pub finite_names : (n : ℕ) (ways : ℕ → List ℕ) → StaysBelow n ways → IsFinite nat_eq ways (λ x. x < n) n
finite_names n ways below = record {
  stays = below;
  room = λ xs inside once. length-le_from_distinct_below xs n
      (distinct_from nat_eq xs once) inside;
}

-- ---- pairs of the first offsets and names below n

-- how many pairs d offsets have
abbrev pub pairs : ℕ → ℕ → ℕ
pairs n zero = 0
pairs n (suc d) = n + pairs n d

pub pairs_is : (n d : ℕ) → pairs n d ≡ d * n
pairs_is n zero = omega arith
pairs_is n (suc d) = let e : pairs n d ≡ d * n = pairs_is n d in omega (arith, e)

abbrev names_below : ℕ → List ℕ
names_below zero = []
names_below (suc n) = n ∷ names_below n

in_names : (n x : ℕ) → x < n → Has nat_eq x (names_below n)
in_names zero x h = absurd (omega (arith, h))
in_names (suc n) x h = ⊎_elim (λ (e : nat_eq x n ≡ true). rw e)
    (λ (e : nat_eq x n ≡ false). rw e (in_names n x (let differ : x ≢ n = λ i. not_both (nat_eq x n) _ ((Decides-eqb x n).1 i) e in
    omega (arith, h, differ)))) (cases_Bool (nat_eq x n))

length_names : (n : ℕ) → length (names_below n) ≡ n
length_names zero = refl
length_names (suc n) = ap (λ m. suc m) (length_names n)

abbrev pairs_below : ℕ → ℕ → List (ℕ × ℕ)
pairs_below n zero = []
pairs_below n (suc d) = map (λ y. (d, y)) (names_below n) ++ pairs_below n d

in_map : (k y : ℕ) (ys : List ℕ) → Has nat_eq y ys → Has same_pair (k, y) (map (λ z. (k, z)) ys)
in_map k y [] h = none_in nat_eq y _ h
in_map k y (z ∷ zs) h = ⊎_elim (λ (e : y ≡ z). has_same same_pair pairs_equal (k, y) (k, z) (map (λ z. (k, z)) zs) (ap (λ w. (k, w)) e))
    (λ g. has_later same_pair (k, y) (k, z) (map (λ z. (k, z)) zs) (in_map k y zs g)) (has_cons nat_eq names_equal y z zs h)

pub from_map : (k : ℕ) (q : ℕ × ℕ) (ys : List ℕ) → Has same_pair q (map (λ z. (k, z)) ys) → (y : ℕ) × Has nat_eq y ys × (q ≡ (k, y))
from_map k q [] h = none_in same_pair q _ h
from_map k q (y ∷ ys) h = ⊎_elim (λ (e : q ≡ (k, y)). (y, has_first nat_eq names_equal y ys, e))
    (λ later. let o = from_map k q ys later in (o.0, has_later nat_eq o.0 y ys o.1, o.2)) (has_cons same_pair pairs_equal q (
      k,
      y,
    ) (map (λ z. (k, z)) ys) h)

in_pairs : (n d : ℕ) (p : ℕ × ℕ) → p.0 < d → p.1 < n → Has same_pair p (pairs_below n d)
in_pairs n zero p h g = absurd (omega (arith, h))
in_pairs n (suc d) (k, y) h g = ⊎_elim
    (λ (e : nat_eq k d ≡ true). let i : k ≡ d = (Decides-eqb k d).0 e in
    rw i (has_left same_pair (d, y) (map (λ z. (d, z)) (names_below n)) (pairs_below n d)
    (in_map d y (names_below n) (in_names n y g))))
    (λ (e : nat_eq k d ≡ false). let differ : k ≢ d = λ i. not_both (nat_eq k d) _ ((Decides-eqb k d).1 i) e in
    has_right same_pair (k, y) (map (λ z. (d, z)) (names_below n)) (pairs_below n d) (in_pairs n d (k, y) (omega (arith, h, differ)) g))
    (cases_Bool (nat_eq k d))

length_appended : {A : Type 0} (xs ys : List A) → length (xs ++ ys) ≡ length xs + length ys
length_appended [] ys = omega arith
length_appended (x ∷ xs) ys = let e : length (xs ++ ys) ≡ length xs + length ys = length_appended xs ys in omega (arith, e)

length_mapped : {A B : Type 0} (f : A → B) (xs : List A) → length (map f xs) ≡ length xs
length_mapped f [] = refl
length_mapped f (x ∷ xs) = ap (λ m. suc m) (length_mapped f xs)

length_pairs : (n d : ℕ) → length (pairs_below n d) ≡ pairs n d
length_pairs n zero = refl
length_pairs n (suc d) = length_appended (map (λ y. (d, y)) (names_below n)) (pairs_below n d)
    ∙ ap (λ m. m + length (pairs_below n d)) (length_mapped (λ y. (d, y)) (names_below n) ∙ length_names n)
    ∙ ap (λ m. n + m) (length_pairs n d)

pub same_cases : {A C : Type 0} (same : A → A → Bool) (other : C → C → Bool) → IsEquality same → IsEquality other → (a b : A) (c d : C) →
    (a ≡ b → c ≡ d) → (c ≡ d → a ≡ b) → same a b ≡ other c d
same_cases same other laws laws_o a b c d there back = ⊎_elim
    (λ (t : same a b ≡ true). let u : other c d ≡ true = (laws_o c d).1 (there ((laws a b).0 t)) in rw (t, u))
    (λ (f : same a b ≡ false). ⊎_elim
    (λ (t : other c d ≡ true). not_both (same a b) _ ((laws a b).1 (back ((laws_o c d).0 t))) f)
    (λ (g : other c d ≡ false). rw (f, g)) (cases_Bool (other c d))) (cases_Bool (same a b))

pub equivalence : {A : Type 0} (same : A → A → Bool) → IsEquality same → IsEquivalence same
equivalence same laws = record {
  refl = λ x. (laws x x).1 refl;
  symm = λ x y. same_cases same same laws laws x y y x sym sym;
  congr = λ x y z h. let e : x ≡ y = (laws x y).0 h in ap (λ w. same w z) e;
}

below_or_at : (k len : ℕ) → k ≤ len → (k < len) ⊎ (k ≡ len)
below_or_at k len h = ⊎_elim (λ (e : nat_eq k len ≡ true). inr ((Decides-eqb k len).0 e))
    (λ (e : nat_eq k len ≡ false). let differ : k ≢ len = λ i. not_both (nat_eq k len) _ ((Decides-eqb k len).1 i) e in
    inl (omega (arith, h, differ))) (cases_Bool (nat_eq k len))

-- the pairs of the offsets up to len and the names below n
abbrev pub InText : ℕ → ℕ → ℕ × ℕ → Type 0
InText n len p = (p.0 ≤ len) × (p.1 < n)

-- a list of these without repeats has no more than there are
pub pairs_room : (n len : ℕ) (xs : List (ℕ × ℕ)) → ((q : ℕ × ℕ) → Has same_pair q xs → InText n len q) → HasNoneTwice same_pair xs →
    length xs ≤ suc len * n
pairs_room n len xs inside once =
    let l : length xs ≤ length (pairs_below n (suc len)) = length-le_from_is_member (equivalence same_pair pairs_equal) xs
    (pairs_below n (suc len)) (distinct_from same_pair xs once)
    (λ q h. let i = inside q h in in_pairs n (suc len) q (omega (arith, i.0)) i.1) in
    let e : length (pairs_below n (suc len)) ≡ suc len * n = length_pairs n (suc len) ∙ pairs_is n (suc len) in
    omega (l, e, arith)

stays_inside : (eps step : ℕ → ℕ → List ℕ) (n len : ℕ) → IsGraph eps step n len → (k x y : ℕ) → k ≤ len → Has nat_eq y (step k x) →
    suc k ≤ len
stays_inside eps step n len graph k x y h way = ⊎_elim (λ (less : k < len). omega (arith, less))
    (λ (e : k ≡ len). let none : step k x ≡ [] = graph.text_ends k x (omega (arith, e)) in let g : Has nat_eq y [] = (rw none at way) in
    none_in nat_eq y _ g) (below_or_at k len h)

pub finite_pairs : (eps step : ℕ → ℕ → List ℕ) (n len : ℕ) → IsGraph eps step n len →
    IsFinite same_pair (nexts eps step) (InText n len) (suc len * n)
finite_pairs eps step n len graph = record {
  stays = λ p here. of_append same_pair pairs_equal (InText n len) (map (λ y. (suc p.0, y)) (step p.0 p.1))
      (map (λ y. (p.0, y)) (eps p.0 p.1))
      (λ q h. let o = from_map (suc p.0) q (step p.0 p.1) h in
      let below : o.0 < n = graph.step_below p.0 p.1 here.1 o.0 o.1 in
      let inside : suc p.0 ≤ len = stays_inside eps step n len graph p.0 p.1 o.0 here.0 o.1 in
      rw o.2 (inside, below))
      (λ q h. let o = from_map p.0 q (eps p.0 p.1) h in
      let below : o.0 < n = graph.eps_below p.0 p.1 here.1 o.0 o.1 in
      rw o.2 (here.0, below));
  room = pairs_room n len;
}
