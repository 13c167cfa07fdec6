-- Uncut lists have at each position the ends of all runs there, in order.
use Rattle.std.proofs.Common.{◌≡◌, ◌≢◌, ℕ, zero, suc, ◌+◌, ◌*◌, ◌-◌, ◌<◌, ◌≤◌, true, false, Bool, List, [], ◌∷◌, ◌++◌, refl, sym, ap, ◌∙◌}
use Rattle.std.proofs.Common.{arith, ⊎_elim, Option}
use Rattle.std.proofs.lemmas.Bool.{cases_Bool}
use Rattle.std.proofs.lemmas.Bool.Decides.{Decides-eqb}
use Rattle.std.proofs.lemmas.List.{append-nil}
use Rattle.std.specs.List.{flat_map}
use Rattle.std.specs.Bool.{nat_eq}
use Rattle.nfa_core.specs.Walks.{distinct, chain_ends, IsEquality}
use Rattle.nfa_core.specs.Runs.{run_ends}
use Rattle.nfa_core.specs.Places.{same_pair, nexts, arrivals, AreStepLists, answers_at, only_at, IsGraph}
use Rattle.nfa_core.proofs.MemberLemmas.{flat_map_same, flat_map_twice}
use Rattle.nfa_core.proofs.JoinLemmas.{join_flat_map}
use Rattle.nfa_core.proofs.PairLemmas.{names_equal}
use Rattle.nfa_core.proofs.PlaceLemmas.{here, beyond, found, ends_by_offset}
use Rattle.nfa_core.proofs.LatestLemmas.{lists_are_joins}

flat_map_nil : {A B : Type 0} (f : A → List B) (xs : List A) → ((x : A) → f x ≡ []) → flat_map f xs ≡ []
flat_map_nil f [] none = refl
flat_map_nil f (x ∷ xs) none = rw (none x) (flat_map_nil f xs none)

pub unequal : (j k : ℕ) → j ≢ k → nat_eq j k ≡ false
unequal j k differ = ⊎_elim (λ (e : nat_eq j k ≡ true). absurd (differ ((Decides-eqb j k).0 e))) (λ e. e) (cases_Bool (nat_eq j k))

module _ {B : Type 0} (eps step : ℕ → ℕ → List ℕ) (n len : ℕ) (graph : IsGraph eps step n len) (answer : ℕ × ℕ → Option B) (k : ℕ) where
  abbrev only : ℕ × ℕ → Option B
  only p = only_at k answer p

  off : (j y : ℕ) → j ≢ k → here eps step only n j y ≡ []
  off j y differ = let e : nat_eq j k ≡ false = unequal j k differ in rw e

  at_k : (y : ℕ) → here eps step only n k y ≡ here eps step answer n k y
  at_k y = let e : nat_eq k k ≡ true = (Decides-eqb k k).1 refl in rw e

  -- after position k there are none
  none_later : (d j y : ℕ) → k ≤ j → beyond eps step only n d j y ≡ []
  none_later zero j y h = refl
  none_later (suc d) j y h = flat_map_nil (found eps step only n d (suc j)) (flat_map (chain_ends nat_eq (eps (suc j)) n []) (step j y))
      (λ z. rw (off (suc j) z (omega (arith, h)), none_later d (suc j) z (omega (arith, h))))

  -- up to position k, the ends are those of what arrives
  up : (start i d : ℕ) → i + d ≡ len → i ≤ k →
      flat_map (found eps step only n len 0) (chain_ends nat_eq (eps 0) n [] start) ≡ flat_map (found eps step only n d i)
      (arrivals eps step n start i)
  up start zero d sum low = let e : len ≡ d = omega (arith, sum) in rw e
  up start (suc i) d sum low =
      let arrived : List ℕ = arrivals eps step n start i in
      let ends : ℕ → List ℕ = chain_ends nat_eq (eps (suc i)) n [] in
      up start i (suc d) (omega (arith, sum)) (omega (arith, low))
      ∙ flat_map_same nat_eq names_equal (found eps step only n (suc d) i)
      (λ y. flat_map (found eps step only n d (suc i)) (flat_map ends (step i y))) arrived
      (λ y h. rw (off i y (omega (arith, low))))
      ∙ sym (flat_map_twice (found eps step only n d (suc i)) (λ y. flat_map ends (step i y)) arrived)
      ∙ ap (flat_map (found eps step only n d (suc i))) (sym (flat_map_twice ends (step i) arrived))

  at_place : (d : ℕ) (xs : List ℕ) → flat_map (found eps step only n d k) xs ≡ answers_at answer k xs
  at_place d xs = flat_map_same nat_eq names_equal (found eps step only n d k) (here eps step answer n k) xs
      (λ y h. ap (λ l. here eps step only n k y ++ l) (none_later d k y (omega arith)) ∙ append-nil (here eps step only n k y) ∙ at_k y)

  -- the matches of the list at position k are the ends of runs there
  pub list_has_ends : (same_end : B → B → Bool) → IsEquality same_end → (start : ℕ) → start < n → (lists : ℕ → List ℕ) →
      AreStepLists eps step (λ j xs. xs) len start lists → k ≤ len →
      distinct same_end (answers_at answer k (lists k)) ≡ run_ends same_pair same_end (nexts eps step) (only_at k answer) (suc len * n) (
        0,
        start,
      )
  list_has_ends same_end laws_end start start_low lists listed inside =
      let arrived : List ℕ = arrivals eps step n start k in
      ap (λ l. distinct same_end (answers_at answer k l)) (lists_are_joins eps step n len graph start start_low lists listed k inside)
      ∙ join_flat_map nat_eq names_equal same_end laws_end (here eps step answer n k) [] [] arrived
      ∙ ap (distinct same_end) (sym (ends_by_offset eps step only n len graph start start_low
      ∙ up start k (len - k) (omega (arith, inside)) (omega arith)
      ∙ at_place (len - k) arrived))
