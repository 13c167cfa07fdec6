-- What a depth-first search lists from a state that tries each offset: what it lists at the offsets, one after the other.
use Rattle.std.proofs.Common.{◌≡◌, ℕ, zero, suc, ◌+◌, ◌-◌, ◌≤◌, false, List, [], ◌∷◌, refl}
use Rattle.std.proofs.Common.{sym, ap, ◌∙◌, arith, append-nil}
use Rattle.std.specs.List.{flat_map}
use Rattle.hir_core.proofs.ForCallers.{flat_map_same}
use Rattle.nfa_core.specs.Walks.{lists_none}
use Rattle.nfa_core.specs.Ways.{Text}
use Rattle.nfa_core.specs.Drafted.{Table}
use Rattle.thompson_nfa.specs.Denotes.{at, Orders}
use Rattle.search_types.specs.FirstFound.{offsets_from}
use Rattle.thompson_nfa.specs.Assembled.{TriesEachOffset}
use Rattle.thompson_nfa.proofs.Walks.WayLemmas.{goes_empty}
use Rattle.thompson_nfa.proofs.Walks.OrderLemmas.{ListedFirsts, firsts_of, firsts_append, firsts_behind, orders_like, orders_join}
use Rattle.thompson_nfa.proofs.Walks.OrderLemmas.{orders_leaf, orders_rounds}
use Rattle.thompson_nfa.proofs.Walks.TriedPlaces.{any_ends, IsText, ends_forward, moves_forward, goes_on, goes_any}
use Rattle.thompson_nfa.proofs.Assembled.AssembledTries.{nothing_read}

-- the offset, and those that are reached from it by at most so many bytes
abbrev pub tried_from : Text → ℕ → ℕ → List ℕ
tried_from t zero i = i ∷ []
tried_from t (suc n) i = i ∷ flat_map (tried_from t n) (any_ends false t i)

-- all offsets that are reached
abbrev pub tried : Text → ℕ → List ℕ
tried t i = tried_from t (t.end - i) i

tried_step : (t : Text) (n i : ℕ) → t.end - i ≡ n → tried_from t n i ≡ i ∷ flat_map (tried t) (any_ends false t i)
tried_step t zero i e = ap (λ (l : List ℕ). i ∷ flat_map (tried t) l) (sym (nothing_read t i (omega arith)))
tried_step t (suc n) i e = ap (λ (l : List ℕ). i ∷ l) (flat_map_same (tried_from t n) (tried t) (any_ends false t i)
    (λ k h. let m = moves_forward t i k h in
    let is = m.0 in
    ap (λ (d : ℕ). tried_from t d k) (let f : n ≡ t.end - k = omega arith in f)))

single_ends : (js : List ℕ) → flat_map (λ (i : ℕ). i ∷ []) js ≡ js
single_ends [] = refl
single_ends (j ∷ js) = ap (λ (l : List ℕ). j ∷ l) (single_ends js)

module _ (t : Text) (T : Table) (u c : ℕ) (w : TriesEachOffset T u c) where
  pub tries_in_order : Orders t T u c (tried t)
  tries_in_order = orders_rounds t T false w.byte u c (any_ends false t) (tried t) t.end
      (λ i k h. let m = moves_forward t i k h in let is = m.0 in let less = m.1 in (omega arith, omega arith))
      (λ i. tried_step t (t.end - i) i refl) (goes_on false t T u c w)
      (orders_like t T w.byte u (λ i. flat_map (λ (k : ℕ). k ∷ []) (any_ends false t i)) (any_ends false t)
      (λ i. single_ends (any_ends false t i))
      (orders_join t T w.byte w.back u (any_ends false t) (λ i. i ∷ [])
      (orders_leaf t T w.byte w.back (any_ends false t) (goes_any false t T u c w))
      (orders_leaf t T w.back u (λ i. i ∷ []) (goes_empty false t T w.back u w.again))))
      u (goes_on false t T u c w)

module _ (t : Text) (T : Table) (s c : ℕ) (lists : ℕ → List (ℕ × ℕ)) (each : (k : ℕ) → ListedFirsts t T ((k, c) ∷ []) (lists k)) where
  listed_at : (js : List ℕ) → ListedFirsts t T (at c js) (flat_map lists js)
  listed_at [] = firsts_of t T [] [] lists_none
  listed_at (j ∷ js) = firsts_append t T ((j, c) ∷ []) (at c js) (lists j) (flat_map lists js) (each j) (listed_at js)

  -- what is listed after states that lead to c at these offsets
  pub listed_behind : (ends : ℕ → List ℕ) (i : ℕ) → Orders t T s c ends → ListedFirsts t T ((i, s) ∷ []) (flat_map lists (ends i))
  listed_behind ends i a = firsts_behind t T (at c (ends i)) ((i, s) ∷ []) (flat_map lists (ends i)) (a.lists i) (listed_at (ends i))

-- if the haystack is of bytes and the span ends in it, all offsets up to the span's end are reached
tried_places : (t : Text) → IsText t → (n i : ℕ) → i + n ≡ t.end → tried_from t n i ≡ offsets_from i (suc n)
tried_places t is zero i e = refl
tried_places t is (suc n) i e = ap (λ (l : List ℕ). i ∷ l)
    (ap (flat_map (tried_from t n)) (ends_forward t i is (omega arith)) ∙ append-nil (tried_from t n (suc i))
    ∙ tried_places t is n (suc i) (omega arith))

pub all_tried : (t : Text) (i : ℕ) → IsText t → i ≤ t.end → tried t i ≡ offsets_from i (suc t.end - i)
all_tried t i is h = tried_places t is (t.end - i) i (omega arith) ∙ ap (offsets_from i)
    (let e : suc (t.end - i) ≡ suc t.end - i = omega arith in e)
