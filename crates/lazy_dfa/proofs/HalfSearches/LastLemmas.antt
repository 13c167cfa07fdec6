-- The last end and the nearest end of runs, by what states list.
use Rattle.std.proofs.Common.{◌≡◌, ℕ, suc, ◌+◌, ◌-◌, ◌<◌, ◌≤◌, Bool, true, false, List, [], ◌∷◌, map, Option, Some, None, refl, sym, ap}
use Rattle.std.proofs.Common.{◌∙◌, ⊎_elim, subst, arith, if◌then◌else◌}
use Rattle.std.proofs.lemmas.Bool.{cases_lt, le-ltb}
use Rattle.std.proofs.lemmas.Bool.Decides.{Decides-eqb}
use Rattle.std.specs.List.{filter}
use Rattle.std.specs.Bool.{nat_eq}
use Rattle.nfa_core.specs.Walks.{has, Has}
use Rattle.nfa_core.specs.Places.{same_pair, first}
use Rattle.nfa_core.specs.Ways.{offset_of}
use Rattle.nfa_core.proofs.ForCallers.{none_in, has_first, pairs_equal, one_value, no_value, has_filter}
use Rattle.nfa_core.specs.Reaches.{IsWithinReach}
use Rattle.determinize_core.specs.States.{StateValue}
use Rattle.determinize_core.specs.Walked.{latest_listed}
use Rattle.determinize_core.proofs.ForCallers.{none_listed, last_listed}
use Rattle.lazy_dfa.specs.ScanLaws.{is_past, IsLastEnd, IsNearestEnd}

abbrev pub pattern : ℕ × ℕ → ℕ
pattern x = x.1

abbrev pub is_at : ℕ → ℕ × ℕ → Bool
is_at j x = nat_eq x.0 j

pub none_mapped : (xs : List (ℕ × ℕ)) → map pattern xs ≡ [] → xs ≡ []
none_mapped [] e = refl
none_mapped (x ∷ xs) e = cc

first_mapped : (xs : List (ℕ × ℕ)) (p : ℕ) → first (map pattern xs) ≡ Some p → (x : ℕ × ℕ) × (first xs ≡ Some x) × (x.1 ≡ p)
first_mapped [] p e = no_value None p _ refl e
first_mapped (x ∷ xs) p e = (x, refl, one_value (Some x.1) x.1 p refl e)

if_first : (b : Bool) (x y : ℕ × ℕ) (xs : List (ℕ × ℕ)) (Q : Type 0) → ((b ≡ true) → x ≡ y → Q) → (first xs ≡ Some y → Q) →
    first (if b then x ∷ xs else xs) ≡ Some y → Q
if_first true x y xs Q here later e = here refl (one_value (Some x) x y refl e)
if_first false x y xs Q here later e = later e

first_passes : (test : ℕ × ℕ → Bool) (xs : List (ℕ × ℕ)) (y : ℕ × ℕ) → first (filter test xs) ≡ Some y → test y ≡ true
first_passes test [] y e = no_value None y _ refl e
first_passes test (x ∷ xs) y e =
    if_first (test x) x y (filter test xs) (test y ≡ true) (λ is same. sym (ap test same) ∙ is)
    (λ later. first_passes test xs y later) e

pub none_there : (xs : List (ℕ × ℕ)) → ((x : ℕ × ℕ) → Has same_pair x xs → ⊥) → xs ≡ []
none_there [] f = refl
none_there (x ∷ xs) f = absurd (f x (has_first same_pair pairs_equal x xs))

-- the test for an offset keeps an end at this offset
no_end : (xs : List (ℕ × ℕ)) (x : ℕ × ℕ) (j : ℕ) → Has same_pair x xs → x.0 ≡ j → filter (is_at j) xs ≡ [] → ⊥
no_end xs x j there at none =
    let kept : has same_pair x (filter (is_at j) xs) ≡ true =
    has_filter same_pair pairs_equal (is_at j) x xs ((Decides-eqb x.0 j).1 at) ∙ there in
    none_in same_pair x ⊥ (sym (ap (has same_pair x) none) ∙ kept)

pub not_past : (is_reverse : Bool) (i k m : ℕ) → k ≤ m → is_past is_reverse (offset_of is_reverse i k) (offset_of is_reverse i m) ≡ false
not_past false i k m l = le-ltb (i + m) (i + k) (omega (arith, l))
not_past true i k m l = le-ltb (i - k) (i - m) (omega (arith, l))

module _ (is_reverse : Bool) (i len : ℕ) (ends : List (ℕ × ℕ)) (states : ℕ → StateValue)
    (inside : (x : ℕ × ℕ) → Has same_pair x ends → IsWithinReach is_reverse i len x.0)
    (all : (k : ℕ) → k ≤ len → (states (suc k)).matches ≡ map pattern (filter (is_at (offset_of is_reverse i k)) ends)) where
  abbrev place : ℕ → ℕ
  place k = offset_of is_reverse i k

  none_at : (k : ℕ) → k ≤ len → (states (suc k)).matches ≡ [] → filter (is_at (place k)) ends ≡ []
  none_at k l silent = none_mapped (filter (is_at (place k)) ends) (sym (all k l) ∙ silent)

  no_ends : ((k : ℕ) → k ≤ len → (states (suc k)).matches ≡ []) → ends ≡ []
  no_ends silent = none_there ends
      (λ x there. let j = inside x there in no_end ends x (place j.0) there j.2 (none_at j.0 j.1 (silent j.0 j.1)))

  -- the first pattern that is listed is the pattern of the best run there
  best_there : (m p : ℕ) → m ≤ len → first (states (suc m)).matches ≡ Some p →
      first (filter (is_at (place m)) ends) ≡ Some (place m, p)
  best_there m p l is =
      let x = first_mapped (filter (is_at (place m)) ends) p (sym (ap first (all m l)) ∙ is) in
      let at : x.0.0 ≡ place m = (Decides-eqb x.0.0 (place m)).0 (first_passes (is_at (place m)) ends x.0 x.1) in
      x.1 ∙ same_some x.0 (place m) p at x.2
    where
      same_some : (x : ℕ × ℕ) (j p : ℕ) → x.0 ≡ j → x.1 ≡ p → Some x ≡ Some (j, p)
      same_some x j p e f = λ n. Some (e n, f n)

  abbrev BestAt : ℕ → ℕ → Type 0
  BestAt j p = first (filter (λ (x : ℕ × ℕ). nat_eq x.0 j) ends) ≡ Some (j, p)

  pub last_end : (o : Option (ℕ × ℕ)) → latest_listed states place len 0 ≡ o → IsLastEnd is_reverse ends o
  last_end None e = no_ends (λ k l. none_listed states place len 0 e k (omega arith) (omega (arith, l)))
  last_end (Some (j, p)) e =
      let r = last_listed states place len 0 j p e in
      let to = r.2 in (
        subst (λ (m : ℕ). BestAt m p) (sym r.3) (best_there r.0 p (omega (arith, to)) r.4),
        λ x there. let y = inside x there in
            ⊎_elim
            (λ (past : r.0 < y.0). let up = y.1 in
            absurd (no_end ends x (place y.0) there y.2 (none_at y.0 y.1 (r.5 y.0 past (omega (arith, up))))))
            (λ (l : y.0 ≤ r.0). ap (λ (m : ℕ). is_past is_reverse m j) y.2 ∙ ap (is_past is_reverse (place y.0)) r.3
            ∙ not_past is_reverse i y.0 r.0 l)
            (cases_lt r.0 y.0),
      )

  pub nearest_end : (m p : ℕ) → m ≤ len → first (states (suc m)).matches ≡ Some p →
      ((l : ℕ) → l < m → (states (suc l)).matches ≡ []) → IsNearestEnd is_reverse ends (Some (place m, p))
  nearest_end m p up is silent = (
    best_there m p up is,
    λ x there. let y = inside x there in
        ⊎_elim
        (λ (before : y.0 < m). absurd (no_end ends x (place y.0) there y.2 (none_at y.0 y.1 (silent y.0 before))))
        (λ (l : m ≤ y.0). ap (is_past is_reverse (place m)) y.2 ∙ not_past is_reverse i m y.0 l)
        (cases_lt y.0 m),
  )

  pub no_end_at_all : ((k : ℕ) → k ≤ len → (states (suc k)).matches ≡ []) → IsNearestEnd is_reverse ends None
  no_end_at_all silent = no_ends silent
