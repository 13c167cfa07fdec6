-- From a pair to which nothing leads back, the ends of runs are those from where it leads, one after the other.
use Rattle.std.proofs.Common.{◌≡◌, ℕ, zero, suc, ◌*◌, Bool, true, false, List, [], ◌∷◌, ◌++◌, length, None, refl, sym, ap, ◌∙◌, ⊎_elim}
use Rattle.std.proofs.Common.{arith}
use Rattle.std.specs.List.{flat_map}
use Rattle.std.specs.Option.{option_to_list}
use Rattle.nfa_core.specs.Walks.{has, Has, IsEquality, IsFinite, join, distinct, chain_ends}
use Rattle.nfa_core.specs.Runs.{IsChain, last_or, answers}
use Rattle.nfa_core.specs.Places.{same_pair}
use Rattle.nfa_core.specs.Returns.{IsLeftForGood}
use Rattle.nfa_core.specs.Nfa.{Automaton, IsWellFormed}
use Rattle.nfa_core.specs.Ways.{Text, IsPairOf, ways, matched, ends_from}
use Rattle.nfa_core.proofs.MemberLemmas.{none_in, not_both, has_or_not, has_append, has_left, has_one, flat_map_same, flat_map_twice}
use Rattle.nfa_core.proofs.MemberLemmas.{of_cons}
use Rattle.nfa_core.proofs.JoinLemmas.{join-append, join_flat_map}
use Rattle.nfa_core.proofs.RelabelLemmas.{same_bound}
use Rattle.nfa_core.proofs.PairLemmas.{pairs_equal}
use Rattle.nfa_core.proofs.AutomatonLemmas.{finite_automaton}

module _ {A : Type 0} (same : A → A → Bool) (laws : IsEquality same) (steps : A → List A) (p : A) where
  -- no chain from q leads to p
  abbrev pub IsApartFrom : A → Type 0
  IsApartFrom q = (r : List A) → IsChain same steps q r → last_or q r ≡ p → ⊥

  apart_on : (q y : A) → IsApartFrom q → Has same y (steps q) → IsApartFrom y
  apart_on q y apart way = λ r chain last. apart (y ∷ r) (way, chain) last

  lacks_end : (q : A) (path : List A) → IsApartFrom q → has same q path ≡ false → has same q (path ++ p ∷ []) ≡ false
  lacks_end q path apart absent = ⊎_elim
      (λ (h : Has same q (path ++ p ∷ [])). ⊎_elim (λ there. not_both (has same q path) _ there absent)
      (λ last. let e : q ≡ p = has_one same laws q p last in absurd (apart [] tt e)) (has_append same q path (p ∷ []) h))
      (λ e. e) (has_or_not same q (path ++ p ∷ []))

  -- so it makes no difference whether they avoid it
  path_apart : (n : ℕ) (path : List A) (q : A) → IsApartFrom q →
      chain_ends same steps n (path ++ p ∷ []) q ≡ chain_ends same steps n path q
  path_apart zero path q apart = refl
  path_apart (suc n) path q apart = ⊎_elim
      (λ (e : has same q path ≡ true). let f : has same q (path ++ p ∷ []) ≡ true = has_left same q path (p ∷ []) e in rw (e, f))
      (λ (e : has same q path ≡ false). let f : has same q (path ++ p ∷ []) ≡ false = lacks_end q path apart e in rw (e, f)
      (ap (λ l. q ∷ l) (flat_map_same same laws (chain_ends same steps n (q ∷ (path ++ p ∷ []))) (chain_ends same steps n (q ∷ path))
      (steps q)
      (λ y way. path_apart n (q ∷ path) y (apart_on q y apart way))))) (has_or_not same q path)

-- repeats in the lists that are joined do not show above
module _ {A : Type 0} (same : A → A → Bool) (laws : IsEquality same) where
  one_each : (xs : List A) → flat_map (λ x. x ∷ []) xs ≡ xs
  one_each [] = refl
  one_each (x ∷ xs) = ap (λ l. x ∷ l) (one_each xs)

  pub join_once_more : (t xs : List A) → join same t (distinct same xs) ≡ join same t xs
  join_once_more t xs =
      ap (join same t) (sym (one_each (distinct same xs)))
      ∙ join_flat_map same laws same laws (λ x. x ∷ []) t [] xs
      ∙ ap (join same t) (one_each xs)

  pub join_distinct_each : {B : Type 0} (g : B → List A) (t : List A) (qs : List B) →
      join same t (flat_map g qs) ≡ join same t (flat_map (λ q. distinct same (g q)) qs)
  join_distinct_each g t [] = refl
  join_distinct_each g t (q ∷ qs) =
      join-append same t (g q) (flat_map g qs)
      ∙ ap (λ s. join same s (flat_map g qs)) (sym (join_once_more t (g q)))
      ∙ join_distinct_each g (join same t (distinct same (g q))) qs
      ∙ sym (join-append same t (distinct same (g q)) (flat_map (λ k. distinct same (g k)) qs))

module _ (a : Automaton) (t : Text) (p : ℕ × ℕ) (formed : IsWellFormed a) (here : IsPairOf a t p) where
  abbrev bound : ℕ
  bound = suc t.end * length a.states

  abbrev finite : IsFinite same_pair (ways a t) (IsPairOf a t) bound
  finite = finite_automaton a t formed

  abbrev found : ℕ → List (ℕ × ℕ) → ℕ × ℕ → List (ℕ × ℕ)
  found n path q = answers (matched a) (chain_ends same_pair (ways a t) n path q)

  found_on : (n : ℕ) → bound ≡ suc n → IsLeftForGood a t p → (q : ℕ × ℕ) → Has same_pair q (ways a t p) →
      found n (p ∷ []) q ≡ found bound [] q
  found_on n e none q way =
      let inside : IsPairOf a t q = finite.stays p here q way in
      ap (answers (matched a))
      (same_bound same_pair pairs_equal (ways a t) (IsPairOf a t) bound finite n bound (p ∷ []) q inside
      (of_cons same_pair pairs_equal (IsPairOf a t) p [] here (λ k has. none_in same_pair k _ has)) (refl, tt) (omega (arith, e))
      (omega arith)
      ∙ path_apart same_pair pairs_equal (ways a t) p bound [] q (none q way))

  found_first : (n : ℕ) → bound ≡ suc n → matched a p ≡ None → found bound [] p ≡ flat_map (found n (p ∷ [])) (ways a t p)
  found_first n e none =
      ap (λ k. found k [] p) e
      ∙ ap (λ o. option_to_list o ++ flat_map (λ x. option_to_list (matched a x))
      (flat_map (chain_ends same_pair (ways a t) n (p ∷ [])) (ways a t p))) none
      ∙ flat_map_twice (λ x. option_to_list (matched a x)) (chain_ends same_pair (ways a t) n (p ∷ [])) (ways a t p)

  some_room : (n : ℕ) → bound ≡ n → (m : ℕ) × (bound ≡ suc m)
  some_room zero e = let l = here.1 in absurd (grind (arith, e, l))
  some_room (suc m) e = (m, e)

  pub ends_by_ways : IsLeftForGood a t p → matched a p ≡ None →
      ends_from a t p ≡ distinct same_pair (flat_map (ends_from a t) (ways a t p))
  ends_by_ways none unmatched =
      let m = some_room bound refl in
      ap (distinct same_pair) (found_first m.0 m.1 unmatched
      ∙ flat_map_same same_pair pairs_equal (found m.0 (p ∷ [])) (found bound []) (ways a t p) (λ q way. found_on m.0 m.1 none q way))
      ∙ join_distinct_each same_pair pairs_equal (found bound []) [] (ways a t p)
