-- Members of lists of ends: of a joined list, and of the lists of several offsets joined.
use Rattle.std.proofs.Common.{◌≡◌, ℕ, Bool, true, false, cond, List, [], ◌∷◌, ◌++◌, ◌⊎◌, inl, inr, refl, sym, ap, ◌∙◌, subst}
use Rattle.std.proofs.lemmas.List.Concat.{flat_map-append}
use Rattle.std.specs.List.{flat_map}
use Rattle.hir_core.specs.PreferredEnds.{Has, in_order}

pub Has-left : (xs ys : List ℕ) (j : ℕ) → Has xs j → Has (xs ++ ys) j
Has-left [] ys j h = elim h [ ]
Has-left (x ∷ xs) ys j (inl e) = inl e
Has-left (x ∷ xs) ys j (inr h) = inr (Has-left xs ys j h)

pub Has-right : (xs ys : List ℕ) (j : ℕ) → Has ys j → Has (xs ++ ys) j
Has-right [] ys j h = h
Has-right (x ∷ xs) ys j h = inr (Has-right xs ys j h)

pub Has-append : (xs ys : List ℕ) (j : ℕ) → Has (xs ++ ys) j → Has xs j ⊎ Has ys j
Has-append [] ys j h = inr h
Has-append (x ∷ xs) ys j (inl e) = inl (inl e)
Has-append (x ∷ xs) ys j (inr h) = elim (Has-append xs ys j h) [ inl a ↦ inl (inr a) | inr b ↦ inr b ]

-- what the joined lists have, one of them has
pub Has-flat_map : (f : ℕ → List ℕ) (xs : List ℕ) (j : ℕ) → Has (flat_map f xs) j → (k : ℕ) × Has xs k × Has (f k) j
Has-flat_map f [] j h = elim h [ ]
Has-flat_map f (x ∷ xs) j h = elim (Has-append (f x) (flat_map f xs) j h) [
  | inl a ↦ (x, inl refl, a)
  | inr b ↦ let others = Has-flat_map f xs j b in (others.0, inr others.1, others.2)
]

-- what one of the lists has, the joined ones have
pub Has-into-flat_map : (f : ℕ → List ℕ) (xs : List ℕ) (k j : ℕ) → Has xs k → Has (f k) j → Has (flat_map f xs) j
Has-into-flat_map f [] k j h g = elim h [ ]
Has-into-flat_map f (x ∷ xs) k j (inl e) g =
    Has-left (f x) (flat_map f xs) j (let P : ℕ → Type 0 = λ y. Has (f y) j in subst P (sym e) g)
Has-into-flat_map f (x ∷ xs) k j (inr h) g = Has-right (f x) (flat_map f xs) j (Has-into-flat_map f xs k j h g)

pub flat_map-flat_map : (f g : ℕ → List ℕ) (xs : List ℕ) → flat_map f (flat_map g xs) ≡ flat_map (λ x. flat_map f (g x)) xs
flat_map-flat_map f g [] = refl
flat_map-flat_map f g (x ∷ xs) =
    flat_map-append f (g x) (flat_map g xs) ∙ ap (λ l. flat_map f (g x) ++ l) (flat_map-flat_map f g xs)

-- two functions that agree on the members of the list
pub flat_map_same : (f g : ℕ → List ℕ) (xs : List ℕ) → ((k : ℕ) → Has xs k → f k ≡ g k) → flat_map f xs ≡ flat_map g xs
flat_map_same f g [] same = refl
flat_map_same f g (x ∷ xs) same =
    ap (λ ys. ys ++ flat_map f xs) (same x (inl refl)) ∙ ap (λ ys. g x ++ ys) (flat_map_same f g xs (λ k h. same k (inr h)))

pub nil_from_none : (xs : List ℕ) → ((k : ℕ) → Has xs k → ⊥) → xs ≡ []
nil_from_none [] none = refl
nil_from_none (x ∷ xs) none = absurd (none x (inl refl))

pub Has-in_order : (greedy : Bool) (more : List ℕ) (i j : ℕ) → Has (in_order greedy more i) j → Has more j ⊎ (i ≡ j)
Has-in_order true more i j h = elim (Has-append more (i ∷ []) j h) [ inl a ↦ inl a | inr (inl e) ↦ inr e | inr (inr b) ↦ elim b [ ] ]
Has-in_order false more i j (inl e) = inr e
Has-in_order false more i j (inr h) = inl h

pub Has-more : (greedy : Bool) (more : List ℕ) (i j : ℕ) → Has more j → Has (in_order greedy more i) j
Has-more true more i j h = Has-left more (i ∷ []) j h
Has-more false more i j h = inr h

pub Has-stop : (greedy : Bool) (more : List ℕ) (i j : ℕ) → i ≡ j → Has (in_order greedy more i) j
Has-stop true more i j e = Has-right more (i ∷ []) j (inl e)
Has-stop false more i j e = inl e

-- a list of one end, or of none
pub Has-if : (b : Bool) (k j : ℕ) → Has (cond b (k ∷ []) []) j → (b ≡ true) × (k ≡ j)
Has-if true k j (inl e) = (refl, e)
Has-if true k j (inr h) = elim h [ ]
Has-if false k j h = elim h [ ]

pub Has-then : (b : Bool) (k j : ℕ) → b ≡ true → k ≡ j → Has (cond b (k ∷ []) []) j
Has-then true k j t e = inl e
Has-then false k j t e = cc
