-- What slots hold after a write, and after the version has increased.
use Rattle.std.proofs.Common.{◌≡◌, ℕ, zero, suc, ◌+◌, List, [], ◌∷◌, Option, Some, None, false, All, map, length, set, replicate, take}
use Rattle.std.proofs.Common.{drop, ◌++◌, refl, ap, ◌∙◌, nat_eq, eq-eqb, arith}
use Rattle.std.proofs.lemmas.List.{map-set, length-replicate}
use Rattle.std.proofs.lemmas.List.Elements.{All-head, All-tail}
use Rattle.std.proofs.lemmas.Grind.{common_steps}
use Rattle.std.proofs.lemmas.Bool.Decides.{nat_tests}
use Rattle.thompson_nfa.specs.declared.class_fragments.slots.Slot.{Slot}
use Rattle.thompson_nfa.specs.Slots.{current, IsUpTo}

-- a slot of this version holds its key
pub current_now : {K : Type 0} → (v : ℕ) (key : K) (id : ℕ) → current v (Some (record { version = v; key = key; id = id })) ≡ Some (key, id)
current_now v key id = rw (eq-eqb v v refl)

-- a slot of an earlier version holds nothing
pub current_past : {K : Type 0} → (v : ℕ) (slot : Option (Slot K)) → IsUpTo v slot → current (v + 1) slot ≡ None
current_past v None up = refl
current_past v (Some slot) up =
    let e : nat_eq slot.version (v + 1) ≡ false = grind (arith, nat_tests) in rw e

pub slots_set : {K : Type 0} → (v : ℕ) (slots : List (Option (Slot K))) (at : ℕ) (key : K) (id : ℕ) →
    map (current v) (set slots at (Some (record { version = v; key = key; id = id }))) ≡ set (map (current v) slots) at (Some (key, id))
slots_set v slots at key id =
    map-set (current v) slots at (Some (record { version = v; key = key; id = id }))
    ∙ ap (set (map (current v) slots) at) (current_now v key id)

pub slots_none : {K : Type 0} → (v n : ℕ) → map (current {K = K} v) (replicate n None) ≡ replicate n None
slots_none v zero = refl
slots_none v (suc n) = ap (λ xs. None ∷ xs) (slots_none v n)

pub slots_made : {K : Type 0} → (v n : ℕ) (slots : List (Option (Slot K))) → slots ≡ replicate n None →
    map (current v) slots ≡ replicate n None
slots_made v n slots e = rw e (slots_none v n)

pub slots_past : {K : Type 0} → (v n : ℕ) (slots : List (Option (Slot K))) → length slots ≡ n → All (IsUpTo v) slots →
    map (current (v + 1)) slots ≡ replicate n None
slots_past {K} v n slots e up = rw (← e) (past slots up)
  where
    past : (xs : List (Option (Slot K))) → All (IsUpTo v) xs → map (current (v + 1)) xs ≡ replicate (length xs) None
    past [] here = refl
    past (x ∷ xs) here = rw (current_past v x (All-head (IsUpTo v) x xs here), past xs (All-tail (IsUpTo v) x xs here))

all_written : {K : Type 0} → (n len : ℕ) (old new : List (Option (Slot K))) → len ≡ n → length old ≡ n → new ≡ replicate n None →
    take len (new ++ drop (length new) old) ≡ new
all_written n len old new a b e = let many : length new ≡ n = ap length e ∙ length-replicate n None in grind (arith, common_steps)

-- all slots are overwritten
pub slots_forgotten : {K : Type 0} → (v n len : ℕ) (old new : List (Option (Slot K))) → len ≡ n → length old ≡ n → new ≡ replicate n None →
    map (current v) (take len (new ++ drop (length new) old)) ≡ replicate n None
slots_forgotten v n len old new a b e =
    rw (all_written n len old new a b e) (slots_made v n new e)
