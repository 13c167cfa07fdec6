-- Runs that avoid a path: the form in which the search of simple chains finds them.
use Rattle.std.proofs.Common.{◌≡◌, ℕ, false, Bool, List, [], ◌∷◌, refl, ⊎_elim, subst}
use Rattle.nfa_core.specs.Walks.{has, Has, HasNoneTwice, IsEquality, IsFinite}
use Rattle.nfa_core.specs.Runs.{IsChain}
use Rattle.nfa_core.proofs.MemberLemmas.{none_in, has_or_not, not_both, has_first, has_later, has_cons, lacks_later, of_cons}

-- the chain from p continues with r, visits nothing twice, and avoids the path
abbrev pub KeepsOff : {A : Type 0} → (A → A → Bool) → (A → List A) → List A → A → List A → Type 0
KeepsOff same ways path p [] = has same p path ≡ false
KeepsOff same ways path p (q ∷ r) = (has same p path ≡ false) × Has same q (ways p) × KeepsOff same ways (p ∷ path) q r

module _ {A : Type 0} (same : A → A → Bool) (laws : IsEquality same) (ways : A → List A) where
  pub head_off : (path : List A) (p : A) (r : List A) → KeepsOff same ways path p r → has same p path ≡ false
  head_off path p [] off = off
  head_off path p (q ∷ r) off = off.0

  pub chain_of : (path : List A) (p : A) (r : List A) → KeepsOff same ways path p r → IsChain same ways p r
  chain_of path p [] off = tt
  chain_of path p (q ∷ r) off = (off.1, chain_of (p ∷ path) q r off.2)

  -- no vertex of the chain is on the path
  pub all_off : (path : List A) (p : A) (r : List A) → KeepsOff same ways path p r → (z : A) → Has same z (p ∷ r) → has same z path ≡ false
  all_off path p [] off z h = of_cons same laws (λ y. has same y path ≡ false) p [] off (λ y g. none_in same y _ g) z h
  all_off path p (q ∷ r) off z h = of_cons same laws (λ y. has same y path ≡ false) p (q ∷ r) off.0
      (λ y g. lacks_later same y p path (all_off (p ∷ path) q r off.2 y g)) z h

  pub once_of : (path : List A) (p : A) (r : List A) → KeepsOff same ways path p r → HasNoneTwice same (p ∷ r)
  once_of path p [] off = (refl, tt)
  once_of path p (q ∷ r) off = (
    ⊎_elim (λ (h : Has same p (q ∷ r)). not_both (has same p (p ∷ path)) _ (has_first same laws p path) (all_off (p ∷ path) q r off.2 p h))
        (λ e. e) (has_or_not same p (q ∷ r)),
    once_of (p ∷ path) q r off.2,
  )

  pub keeps_off : (path : List A) (p : A) (r : List A) → IsChain same ways p r → HasNoneTwice same (p ∷ r) →
      ((z : A) → Has same z (p ∷ r) → has same z path ≡ false) → KeepsOff same ways path p r
  keeps_off path p [] chain once off = off p (has_first same laws p [])
  keeps_off path p (q ∷ r) chain once off = (
    off p (has_first same laws p (q ∷ r)),
    chain.0,
    keeps_off (p ∷ path) q r chain.1 once.1 (λ z h. ⊎_elim
        (λ (there : Has same z (p ∷ path)). ⊎_elim
        (λ (e : z ≡ p). let g : Has same p (q ∷ r) = (let P : A → Type 0 = λ w. Has same w (q ∷ r) in subst P e h) in
        not_both (has same p (q ∷ r)) _ g once.0)
        (λ on. not_both (has same z path) _ on (off z (has_later same z p (q ∷ r) h))) (has_cons same laws z p path there))
        (λ e. e) (has_or_not same z (p ∷ path))),
  )

  -- all vertices of a chain that begins in the set are in the set
  pub stays_in : (In : A → Type 0) (n : ℕ) → IsFinite same ways In n → (p : A) (r : List A) → In p → IsChain same ways p r → (z : A) →
      Has same z (p ∷ r) → In z
  stays_in In n finite p [] here chain z h = of_cons same laws In p [] here (λ y g. none_in same y _ g) z h
  stays_in In n finite p (q ∷ r) here chain z h = of_cons same laws In p (q ∷ r) here
      (stays_in In n finite q r (finite.stays p here q chain.0) chain.1) z h
