-- The first end of runs does not depend on what comes after the offset at which the search is over.
use Rattle.std.proofs.Common.{◌≡◌, ℕ, zero, suc, ◌-◌, ◌<◌, ◌≤◌, Bool, true, false, List, [], ◌∷◌, ◌++◌, refl, sym, ap, ap₂, ◌∙◌, subst, inl}
use Rattle.std.proofs.Common.{inr, arith}
use Rattle.std.specs.List.{flat_map}
use Rattle.std.specs.Bool.{nat_eq}
use Rattle.std.proofs.lemmas.Bool.{cases_lt}
use Rattle.nfa_core.specs.Walks.{Visits}
use Rattle.nfa_core.specs.Walks.Visits.{done}
use Rattle.nfa_core.specs.Places.{first, before_answer, latest}
use Rattle.nfa_core.specs.Nfa.{Automaton, IsWellFormed}
use Rattle.nfa_core.specs.Ways.{Text, IsPairOf, AreLists, matched_after, bytes_left, offset_of, plain_steps, byte_steps, ends_from}
use Rattle.nfa_core.proofs.BehindLemmas.{latest_is_preferred}
use Rattle.nfa_core.proofs.StepLemmas.{stays_closed}
use Rattle.nfa_core.proofs.PairLemmas.{names_equal}
use Rattle.nfa_core.specs.Reaches.{LeadAlike, LeadsNoFurther}

flat_same : (f g : ℕ → List ℕ) (xs : List ℕ) → ((x : ℕ) → f x ≡ g x) → flat_map f xs ≡ flat_map g xs
flat_same f g [] same = refl
flat_same f g (x ∷ xs) same = ap₂ (λ (l m : List ℕ). l ++ m) (same x) (flat_same f g xs same)

-- a search of an empty stack visits nothing
nothing_met : (steps : ℕ → List ℕ) (after : List ℕ) → Visits nat_eq steps [] [] after → after ≡ []
nothing_met steps after (done seen ids e) = sym e

nothing_todo : (steps : ℕ → List ℕ) (stack after : List ℕ) → stack ≡ [] → Visits nat_eq steps stack [] after → after ≡ []
nothing_todo steps stack after e v = let P : List ℕ → Type 0 = λ l. Visits nat_eq steps l [] after in nothing_met steps after (subst P e v)

meets_nothing : (steps : ℕ → List ℕ) (stack after : List ℕ) → stack ≡ [] → after ≡ [] → Visits nat_eq steps stack [] after
meets_nothing steps stack after e f =
    let P : List ℕ → Type 0 = λ l. Visits nat_eq steps l [] after in
    subst P (sym e) (done [] after (sym f))

left_same : (b : Bool) (t u : Text) (i : ℕ) → t.start ≡ u.start → t.end ≡ u.end → bytes_left b t i ≡ bytes_left b u i
left_same false t u i s e = ap (λ k. k - i) e
left_same true t u i s e = ap (λ k. i - k) s

module _ (a : Automaton) (t u : Text) (i q d : ℕ) (lists : ℕ → List ℕ) where
  abbrev cut : ℕ → List ℕ → List ℕ
  cut k xs = before_answer (λ x. matched_after a i (k, x)) xs

  module _ (alike : LeadAlike a t u i d) (listed : AreLists a t (i, q) cut lists) (over : LeadsNoFurther a t i d (cut d (lists d))) where
    walk_alike : (k : ℕ) → k ≤ d → (stack : List ℕ) → Visits nat_eq (plain_steps a t (offset_of a.reverse i k)) stack [] (lists k) →
        Visits nat_eq (plain_steps a u (offset_of a.reverse i k)) stack [] (lists k)
    walk_alike k l stack v = stays_closed nat_eq names_equal (plain_steps a t (offset_of a.reverse i k))
        (plain_steps a u (offset_of a.reverse i k)) v (λ x has. alike.looks k x l)

    cut_none : (k : ℕ) (xs : List ℕ) → xs ≡ [] → cut k xs ≡ []
    cut_none k xs e = ap (cut k) e

    -- after the end of the search each list is empty
    past_end : (k : ℕ) → d ≤ k → k < bytes_left a.reverse t i → flat_map (byte_steps a t (offset_of a.reverse i k)) (cut k (lists k)) ≡ [] →
        lists (suc k) ≡ []
    past_end k l inside none = nothing_todo (plain_steps a t (offset_of a.reverse i (suc k))) _ (lists (suc k)) none (listed.later k inside)

    over_at : (k : ℕ) → d ≡ k → flat_map (byte_steps a t (offset_of a.reverse i k)) (cut k (lists k)) ≡ []
    over_at k e = let P : ℕ → Type 0 = λ j. flat_map (byte_steps a t (offset_of a.reverse i j)) (cut j (lists j)) ≡ [] in subst P e over

    over_past : (k : ℕ) → d ≤ k → k < bytes_left a.reverse t i → flat_map (byte_steps a t (offset_of a.reverse i k)) (cut k (lists k)) ≡ []
    over_past zero l inside = over_at zero (omega arith)
    over_past (suc k) l inside = elim (cases_lt d (suc k)) [
      | inl lt ↦
          let none : lists (suc k) ≡ [] = past_end k (omega arith) (omega arith) (over_past k (omega arith) (omega arith)) in
          ap (flat_map (byte_steps a t (offset_of a.reverse i (suc k)))) (cut_none (suc k) (lists (suc k)) none)
      | inr ge ↦ over_at (suc k) (omega arith)
    ]

    other_past : (k : ℕ) → d < k → k < bytes_left a.reverse t i → flat_map (byte_steps a u (offset_of a.reverse i k)) (cut k (lists k)) ≡ []
    other_past zero l inside = absurd (omega arith)
    other_past (suc k) l inside =
        let none : lists (suc k) ≡ [] = past_end k (omega arith) (omega arith) (over_past k (omega arith) (omega arith)) in
        ap (flat_map (byte_steps a u (offset_of a.reverse i (suc k)))) (cut_none (suc k) (lists (suc k)) none)

    -- so are those of a search of the other haystack
    other_over : (k : ℕ) → d ≤ k → k < bytes_left a.reverse t i → flat_map (byte_steps a u (offset_of a.reverse i k)) (cut k (lists k)) ≡ []
    other_over k l inside = elim (cases_lt d k) [
      | inl lt ↦ other_past k lt inside
      | inr ge ↦
          sym (flat_same (byte_steps a t (offset_of a.reverse i k)) (byte_steps a u (offset_of a.reverse i k)) (cut k (lists k))
          (λ x. alike.bytes k x (omega arith)))
          ∙ over_past k l inside
    ]

    other_later : (k : ℕ) → k < bytes_left a.reverse t i →
        Visits nat_eq (plain_steps a u (offset_of a.reverse i (suc k)))
        (flat_map (byte_steps a u (offset_of a.reverse i k)) (cut k (lists k))) [] (lists (suc k))
    other_later k inside = elim (cases_lt k d) [
      | inl lt ↦
          let P : List ℕ → Type 0 = λ l. Visits nat_eq (plain_steps a u (offset_of a.reverse i (suc k))) l [] (lists (suc k)) in
          subst P (flat_same (byte_steps a t (offset_of a.reverse i k)) (byte_steps a u (offset_of a.reverse i k)) (cut k (lists k))
          (λ x. alike.bytes k x (omega arith)))
          (walk_alike (suc k) (omega arith) _ (listed.later k inside))
      | inr ge ↦
          meets_nothing (plain_steps a u (offset_of a.reverse i (suc k))) _ (lists (suc k)) (other_over k ge inside)
          (past_end k ge inside (over_past k ge inside))
    ]

    pub other_lists : AreLists a u (i, q) cut lists
    other_lists =
        let same : bytes_left a.reverse t i ≡ bytes_left a.reverse u i = left_same a.reverse t u i alike.same_start alike.same_end in
        record { first = walk_alike 0 (omega arith) (q ∷ []) listed.first; later = λ k inside. other_later k (omega arith) }

    pub first_same : IsWellFormed a → IsPairOf a t (i, q) → first (ends_from a t (i, q)) ≡ first (ends_from a u (i, q))
    first_same formed here =
        let last : t.end ≡ u.end = alike.same_end in
        let place : i ≤ t.end = here.0 in
        sym (latest_is_preferred a t i formed here.0 q here.1 lists listed)
        ∙ ap (λ len. latest (matched_after a i) lists len 0) (left_same a.reverse t u i alike.same_start alike.same_end)
        ∙ latest_is_preferred a u i formed (omega arith) q here.1 lists other_lists
