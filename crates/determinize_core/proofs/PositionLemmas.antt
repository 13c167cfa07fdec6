-- If the positions of the patterns of a list are noted, a pattern that is listed is found, and others aren't.
use Rattle.std.proofs.Common.{◌≡◌, ◌≢◌, ℕ, zero, suc, ◌+◌, ◌<◌, ◌≤◌, ◌||◌, Bool, true, false, List, [], ◌∷◌, ◌++◌, length, get_or, refl}
use Rattle.std.proofs.Common.{sym, ap, ◌∙◌, ⊎_elim, arith, subst, length-append}
use Rattle.std.specs.Prelude.{slice_index, nat_eq, nat_lt}
use Rattle.std.specs.List.{list_any, Any}
use Rattle.std.proofs.lemmas.Bool.{cases_lt}
use Rattle.std.proofs.lemmas.List.{get_or_default}
use Rattle.std.proofs.lemmas.List.Folds.{Any-from_list_any, list_any_at}
use Rattle.std.proofs.Math.ListN.{get_or-append}
use Rattle.std.proofs.Math.Seq.{get_or-append_seam}
use Rattle.determinize_core.specs.Positions.{stands_at, ArePositions}

-- the list has the pattern at its position
stands : (ps : List ℕ) (i p : ℕ) → i < length ps → get_or ps i 0 ≡ p → stands_at ps i p ≡ true
stands ps i p within is =
    let inside : nat_lt i (length ps) ≡ true = grind (arith, within) in
    let same : nat_eq (get_or ps i 0) p ≡ true = grind (arith, is) in
    rw inside same

-- a list that has it at a position lists it
listed_where : (ps : List ℕ) (i p : ℕ) → stands_at ps i p ≡ true → list_any (nat_eq p) ps ≡ true
listed_where ps i p e =
    let within : i < length ps = grind (arith, e) in
    let same : nat_eq p (get_or ps i 0) ≡ true = grind (arith, e) in
    list_any_at (nat_eq p) ps i 0 within same

-- a pattern that isn't in the list is at none of its positions
differs : (p : ℕ) (ps : List ℕ) (i : ℕ) → list_any (nat_eq p) ps ≡ false → i < length ps → get_or ps i 0 ≢ p
differs p ps i absent within is =
    let never : true ≡ false = sym (listed_where ps i p (stands ps i p within is)) ∙ absent in
    absurd (grind (arith, never))

nowhere : (p : ℕ) (ps : List ℕ) (b : Bool) → list_any (nat_eq p) ps ≡ b → (i : ℕ) → b ≡ false → stands_at ps i p ≡ false
nowhere p ps b is i none = elim (stands_at ps i p) as (λ t. stands_at ps i p ≡ t → t ≡ false) [
  | true ↦ λ e. sym (listed_where ps i p e) ∙ (is ∙ none)
  | false ↦ λ e. refl
] refl

-- whether it stands at the first position or at the one that is noted
abbrev found : List ℕ → List ℕ → ℕ → Bool
found noted ps p = stands_at ps 0 p || stands_at ps (slice_index noted p) p

module _ (noted ps : List ℕ) (p : ℕ) (at : ArePositions noted ps) where
  -- the position of a pattern that is listed is noted, or is the first
  there : (k : ℕ) → k < length ps → get_or ps k 0 ≡ p → found noted ps p ≡ true
  there zero within is = let first = stands ps 0 p within is in rw first refl
  there (suc k) within is =
      let place : slice_index noted p ≡ suc k = ap (slice_index noted) (sym is) ∙ at (suc k) (omega arith) within in
      let stood = ap (λ (i : ℕ). stands_at ps i p) place ∙ stands ps (suc k) p within is in
      grind (arith, stood)

  listed_there : Any (λ x. nat_eq p x ≡ true) ps → found noted ps p ≡ true
  listed_there (k, x, within, is, same) = there k within (grind (arith, get_or_default ps k x 0 within, is, same))

  -- the test at both positions shows whether it is listed
  tells_listed : found noted ps p ≡ list_any (nat_eq p) ps
  tells_listed = elim (list_any (nat_eq p) ps) as (λ b. list_any (nat_eq p) ps ≡ b → found noted ps p ≡ b) [
    | true ↦ λ e. listed_there (Any-from_list_any (nat_eq p) ps e)
    | false ↦ λ e. grind (arith, nowhere p ps false e 0 refl, nowhere p ps false e (slice_index noted p) refl)
  ] refl

  -- if it isn't the first, the second test shows it
  pub second_tells : stands_at ps 0 p ≡ false → stands_at ps (slice_index noted p) p ≡ list_any (nat_eq p) ps
  second_tells other = sym (ap (λ (b : Bool). b || stands_at ps (slice_index noted p) p) other) ∙ tells_listed

  -- a position is noted for it if it isn't in the list
  module _ (new : List ℕ) (absent : list_any (nat_eq p) ps ≡ false) (others : (q : ℕ) → q ≢ p →
      slice_index new q ≡ slice_index noted q) where
    pub noted_apart : ArePositions new ps
    noted_apart i past within = others (get_or ps i 0) (differs p ps i absent within) ∙ at i past within

    -- and it is listed at that position
    pub noted_last : (0 < length ps → slice_index new p ≡ length ps) → ArePositions new (ps ++ p ∷ [])
    noted_last last i past within = ⊎_elim
        (λ (before : i < length ps). ap (slice_index new) (get_or-append ps (p ∷ []) 0 i before) ∙ noted_apart i past before)
        (λ (behind : length ps ≤ i).
        let long : length (ps ++ p ∷ []) ≡ length ps + 1 = length-append ps (p ∷ []) in
        let here : i ≡ length ps = omega (arith, behind, within, long) in
        let read : slice_index new (get_or (ps ++ p ∷ []) i 0) ≡ slice_index new p =
        ap (λ (k : ℕ). slice_index new (get_or (ps ++ p ∷ []) k 0)) here ∙ ap (slice_index new) (get_or-append_seam ps p [] 0) in
        read ∙ (last (omega (arith, here, past)) ∙ sym here))
        (cases_lt i (length ps))

-- what is read at a position within the list
pub reads_at : (ps : List ℕ) (i p n m : ℕ) → i < length ps → n ≡ get_or ps i 0 → m ≡ p → nat_eq n m ≡ stands_at ps i p
reads_at ps i p n m within read is =
    let inside : nat_lt i (length ps) ≡ true = grind (arith, within) in
    ap (λ (k : ℕ). nat_eq k m) read ∙ (ap (nat_eq (get_or ps i 0)) is ∙ rw inside refl)

-- positions that are noted for a list are noted for an equal list
pub noted_same : (noted ps qs : List ℕ) → qs ≡ ps → ArePositions noted ps → ArePositions noted qs
noted_same noted ps qs same at = subst (ArePositions noted) (sym same) at
