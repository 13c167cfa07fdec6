-- A table whose keys are seen through a function.
use Rattle.std.proofs.Common.{◌≡◌, ℕ, zero, suc, List, ◌∷◌, Option, Some, None, map, set, replicate, refl, ap}
use Rattle.std.proofs.lemmas.List.{map-set}
use Rattle.std.specs.Option.{option_map}
use Rattle.thompson_nfa.specs.SlotTables.{SlotTable, empty_table}

pub viewed_none : {A B : Type 0} → (f : A → B) (n : ℕ) → map (option_map f) (replicate n None) ≡ replicate n None
viewed_none f zero = refl
viewed_none f (suc n) = ap (λ xs. None ∷ xs) (viewed_none f n)

pub viewed_set : {A B : Type 0} → (f : A → B) (xs : List (Option A)) (i : ℕ) (a : A) →
    map (option_map f) (set xs i (Some a)) ≡ set (map (option_map f) xs) i (Some (f a))
viewed_set f xs i a = map-set (option_map f) xs i (Some a)

-- a table that holds nothing is seen as one that holds nothing
pub viewed_empty : {A B : Type 0} → (f : A × ℕ → B × ℕ) (t : SlotTable A) (n : ℕ) → t ≡ empty_table n →
    record { capacity = t.capacity; places = map (option_map f) t.places } ≡ empty_table {K = B} n
viewed_empty {A} {B} f t n e = rw (e, viewed_none)
