-- Lists of ends of which those above an offset are left out.
use Rattle.std.proofs.Common.{◌≡◌, ℕ, ◌<◌, ◌≤◌, leb, Bool, true, false, List, [], ◌∷◌, ◌++◌, length, inl, inr, refl, sym, ap, ap₂, ◌∙◌}
use Rattle.std.proofs.Common.{subst, arith}
use Rattle.std.specs.List.{flat_map, filter}
use Rattle.std.proofs.lemmas.Bool.{cond-true, cond-false, le-leb, lt-leb, cases_lt}
use Rattle.std.proofs.lemmas.List.Elements.{filter-append}
use Rattle.hir_core.specs.PreferredEnds.{Ends, in_order, Has}

-- the ends up to e
abbrev pub kept : ℕ → List ℕ → List ℕ
kept e xs = filter (λ j. leb j e) xs

module _ (e : ℕ) where
  keeps_first : (x : ℕ) (xs : List ℕ) → x ≤ e → kept e (x ∷ xs) ≡ x ∷ kept e xs
  keeps_first x xs l = cond-true _ _ _ (le-leb x e l)

  drops_first : (x : ℕ) (xs : List ℕ) → e < x → kept e (x ∷ xs) ≡ kept e xs
  drops_first x xs l = cond-false _ _ _ (lt-leb x e l)

  pub Has-kept : (xs : List ℕ) (j : ℕ) → Has (kept e xs) j → Has xs j × (j ≤ e)
  Has-kept [] j g = elim g [ ]
  Has-kept (x ∷ xs) j g = elim (cases_lt e x) [
    | inl above ↦
        let others = Has-kept xs j (subst (λ (l : List ℕ). Has l j) (drops_first x xs above) g) in
        (inr others.0, others.1)
    | inr within ↦ elim (subst (λ (l : List ℕ). Has l j) (keeps_first x xs within) g) [
      | inl same ↦ (inl same, omega (arith, same, within))
      | inr later ↦ let others = Has-kept xs j later in (inr others.0, others.1)
    ]
  ]

  pub kept_has : (xs : List ℕ) (j : ℕ) → Has xs j → j ≤ e → Has (kept e xs) j
  kept_has [] j g l = elim g [ ]
  kept_has (x ∷ xs) j (inl same) l =
      subst (λ (k : List ℕ). Has k j) (sym (keeps_first x xs (omega (arith, same, l)))) (inl same)
  kept_has (x ∷ xs) j (inr g) l = elim (cases_lt e x) [
    | inl above ↦ subst (λ (k : List ℕ). Has k j) (sym (drops_first x xs above)) (kept_has xs j g l)
    | inr within ↦ subst (λ (k : List ℕ). Has k j) (sym (keeps_first x xs within)) (inr (kept_has xs j g l))
  ]

  pub kept_short : (xs : List ℕ) → length (kept e xs) ≤ length xs
  kept_short [] = omega arith
  kept_short (x ∷ xs) = elim (cases_lt e x) [
    | inl above ↦ omega (arith, ap length (drops_first x xs above), kept_short xs)
    | inr within ↦ omega (arith, ap length (keeps_first x xs within), kept_short xs)
  ]

  none_kept : (xs : List ℕ) → ((j : ℕ) → Has xs j → e < j) → kept e xs ≡ []
  none_kept [] above = refl
  none_kept (x ∷ xs) above = drops_first x xs (above x (inl refl)) ∙ none_kept xs (λ j g. above j (inr g))

  -- from an offset above e no list leads back
  pub flat_map_kept : (f g : Ends) → ((k : ℕ) → k ≤ e → f k ≡ kept e (g k)) → ((k j : ℕ) → Has (g k) j → k ≤ j) →
      (xs : List ℕ) → flat_map f (kept e xs) ≡ kept e (flat_map g xs)
  flat_map_kept f g same forward [] = refl
  flat_map_kept f g same forward (x ∷ xs) = elim (cases_lt e x) [
    | inl above ↦
        ap (flat_map f) (drops_first x xs above)
        ∙ flat_map_kept f g same forward xs
        ∙ sym (ap (λ l. l ++ kept e (flat_map g xs)) (none_kept (g x) (λ j m. let step = forward x j m in omega (arith, step, above))))
        ∙ sym (filter-append (λ j. leb j e) (g x) (flat_map g xs))
    | inr within ↦
        ap (flat_map f) (keeps_first x xs within)
        ∙ ap₂ (λ (a b : List ℕ). a ++ b) (same x within) (flat_map_kept f g same forward xs)
        ∙ sym (filter-append (λ j. leb j e) (g x) (flat_map g xs))
  ]

  pub in_order-kept : (greedy : Bool) (more : List ℕ) (i : ℕ) → i ≤ e → in_order greedy (kept e more) i ≡ kept e (in_order greedy more i)
  in_order-kept true more i l =
      ap (λ k. kept e more ++ k) (sym (keeps_first i [] l)) ∙ sym (filter-append (λ j. leb j e) more (i ∷ []))
  in_order-kept false more i l = sym (keeps_first i more l)

-- lists of one end at most that have the same
pub same_one : (xs ys : List ℕ) → length xs ≤ 1 → length ys ≤ 1 → ((j : ℕ) → Has xs j → Has ys j) → ((j : ℕ) → Has ys j → Has xs j) →
    xs ≡ ys
same_one [] [] l m f g = refl
same_one [] (y ∷ ys) l m f g = absurd (g y (inl refl))
same_one (x ∷ xs) [] l m f g = absurd (f x (inl refl))
same_one (x ∷ []) (y ∷ []) l m f g = elim (f x (inl refl)) [ inl e ↦ ap (λ k. k ∷ []) (sym e) | inr b ↦ elim b [ ] ]
same_one (x ∷ []) (y ∷ z ∷ ys) l m f g = absurd (omega arith)
same_one (x ∷ z ∷ xs) (y ∷ ys) l m f g = absurd (omega arith)
