-- A table of slots: a slot, by its index below the capacity, holds a key and the state that was stored with it, or nothing.
use Rattle.std.specs.Prelude.{◌≡◌, ◌≢◌, ℕ, Bool, List, Option, Some, None, get_or, length, replicate, slice_set, [], refl}
use Rattle.std.specs.Bool.{nat_eq}
use Rattle.std.specs.Coded.{Coded, code_by, coded×, coded_ℕ, coded_list, coded_option}

-- what the slots hold, and how many they are once the table is ready; before that there is none
pub record SlotTable (K : Type 0) : Type 0 where
  pub capacity : ℕ
  pub places : List (Option (K × ℕ))

-- a table is stored as the pair of its fields
abbrev pub table_code : {K : Type 0} → Coded K → Coded (SlotTable K)
table_code {K} code =
    code_by (ℕ × List (Option (K × ℕ))) (coded× coded_ℕ (coded_list (coded_option (coded× code coded_ℕ)))) (λ t. (t.capacity, t.places))
    (λ p. record { capacity = p.0; places = p.1 }) (λ _. refl)

-- whether the slots are there
abbrev pub is_ready : {K : Type 0} → SlotTable K → Bool
is_ready table = nat_eq (length table.places) table.capacity

-- what the slot at the index holds
abbrev pub held_at : {K : Type 0} → SlotTable K → ℕ → Option (K × ℕ)
held_at table at = get_or table.places at None

-- a table before its slots are allocated
abbrev pub unready_table : {K : Type 0} → ℕ → SlotTable K
unready_table capacity = record { capacity = capacity; places = [] }

-- a table whose slots hold nothing
abbrev pub empty_table : {K : Type 0} → ℕ → SlotTable K
empty_table capacity = record { capacity = capacity; places = replicate capacity None }

-- the table with this key and state in the slot at the index
abbrev pub with_held : {K : Type 0} → SlotTable K → ℕ → K → ℕ → SlotTable K
with_held table at key id = record { capacity = table.capacity; places = slice_set table.places at (Some (key, id)) }

-- what a look-up of the key in the slot at the index returns: the state that is held there with this key, if there is one
abbrev pub IsStored : {K : Type 0} → SlotTable K → ℕ → K → Option ℕ → Type 0
IsStored table at key None = (id : ℕ) → held_at table at ≢ Some (key, id)
IsStored table at key (Some id) = held_at table at ≡ Some (key, id)
