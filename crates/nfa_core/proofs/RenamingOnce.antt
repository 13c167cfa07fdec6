-- Where the search of a stack ends, no chain from its first vertex visits a vertex twice.
use Rattle.std.proofs.Common.{◌≡◌, ℕ, suc, ◌<◌, Bool, List, [], ◌∷◌, refl, arith, ⊎_elim, Option, Some}
use Rattle.nfa_core.specs.Walks.{Has, Lists, HasNoneTwice, IsEquality, IsFinite}
use Rattle.nfa_core.specs.Runs.{IsChain}
use Rattle.nfa_core.proofs.MemberLemmas.{none_in, has_or_not, has_first, has_cons}
use Rattle.nfa_core.proofs.StackLemmas.{Falls, no_descent, step_down, all_fall}

module _ {A : Type 0} (same : A → A → Bool) (laws : IsEquality same) (ways : A → List A) where
  -- each vertex of a chain falls by fewer steps than the one that the chain begins with
  abbrev FallsBelow : ℕ → A → Type 0
  FallsBelow m z = (k : ℕ) × (k < m) × Falls same laws ways k z

  falls_behind : (r : List A) (p : A) → IsChain same ways p r → (z : A) → Has same z r → (m : ℕ) → Falls same laws ways m p → FallsBelow m z
  falls_behind [] p chain z h m falls = none_in same z _ h
  falls_behind (q ∷ r) p chain z h m falls =
      let d : FallsBelow m q = step_down same laws ways p q m chain.0 falls in
      ⊎_elim (λ (e : z ≡ q). rw e d)
      (λ later. let g : FallsBelow d.0 z = falls_behind r q chain.1 z later d.0 d.2 in
      (g.0, omega (arith, g.1, d.1), g.2)) (has_cons same laws z q r h)

  once_if_falls : (r : List A) (p : A) → IsChain same ways p r → (m : ℕ) → Falls same laws ways m p → HasNoneTwice same (p ∷ r)
  once_if_falls [] p chain m falls = (refl, tt)
  once_if_falls (q ∷ r) p chain m falls =
      let d : FallsBelow m q = step_down same laws ways p q m chain.0 falls in (
        ⊎_elim (λ (h : Has same p (q ∷ r)). absurd (no_descent same laws ways p (falls_behind (q ∷ r) p chain p h) (suc m) m
            (omega arith) falls))
            (λ e. e) (has_or_not same p (q ∷ r)),
        once_if_falls r q chain.1 d.0 d.2,
      )

  pub once_if_listed : {B : Type 0} (answer : A → Option B) → ((x : A) (e : B) → answer x ≡ Some e → ways x ≡ []) →
      (In : A → Type 0) (n : ℕ) → IsFinite same ways In n →
      (p : A) (rest : List A) (l : List B) → Lists ways answer (p ∷ rest) l → (r : List A) → IsChain same ways p r →
      HasNoneTwice same (p ∷ r)
  once_if_listed answer ends_there In n finite p rest l walk r chain =
      let all = all_fall same laws ways In n finite answer ends_there walk in
      once_if_falls r p chain all.0 (all.1 p (has_first same laws p rest))
