-- The first of all that offsets offer, one after the other, is the first offer of the least offset that has one.
use Rattle.std.proofs.Common.{◌≡◌, ℕ, zero, suc, ◌<◌, ◌≤◌, inl, inr, List, [], ◌∷◌, ◌++◌, Option, Some, None, refl, subst, arith}
use Rattle.std.proofs.lemmas.Bool.{cases_lt}
use Rattle.std.specs.List.{flat_map}
use Rattle.search_types.specs.FirstFound.{first_of, offsets_from, IsFirstOffer}

module _ {A : Type 0} (offers : ℕ → List A) where
  none_here : (i k : ℕ) → offers i ≡ [] → i ≤ k → (i < k → offers k ≡ []) → offers k ≡ []
  none_here i k e low later = elim (cases_lt i k) [
    | inl lt ↦ later lt
    | inr ge ↦ let same : i ≡ k = omega arith in let P : ℕ → Type 0 = λ j. offers j ≡ [] in subst P same e
  ]

  first_later : (n i : ℕ) (o : Option A) → offers i ≡ [] → IsFirstOffer offers (suc i) n o → IsFirstOffer offers i (suc n) o
  first_later n i None e r = λ k low high. none_here i k e low (λ lt. r k (omega arith) (omega arith))
  first_later n i (Some c) e r = record {
    place = r.place;
    from = let low = r.from in omega arith;
    below = let high = r.below in omega arith;
    others = r.others;
    here = r.here;
    none_before = λ k low high. none_here i k e low (λ lt. r.none_before k (omega arith) high);
  }

  first_step : (n i : ℕ) (l rest : List A) → offers i ≡ l → IsFirstOffer offers (suc i) n (first_of rest) →
      IsFirstOffer offers i (suc n) (first_of (l ++ rest))
  first_step n i [] rest e r = first_later n i (first_of rest) e r
  first_step n i (c ∷ cs) rest e r = record {
    place = i;
    from = omega arith;
    below = omega arith;
    others = cs;
    here = e;
    none_before = λ k low high. absurd (omega arith);
  }

  pub first_found : (n i : ℕ) → IsFirstOffer offers i n (first_of (flat_map offers (offsets_from i n)))
  first_found zero i = λ k low high. absurd (omega arith)
  first_found (suc n) i = first_step n i (offers i) (flat_map offers (offsets_from (suc i) n)) refl (first_found n (suc i))
