-- What a slot holds for a table of a version: what was stored in it at that version.
use Rattle.std.specs.Prelude.{ℕ, ◌≤◌, Option, Some, None, if◌then◌else◌}
use Rattle.std.specs.Bool.{nat_eq}
use Rattle.thompson_nfa.specs.declared.class_fragments.slots.Slot.{Slot}

-- the key and the state, unless the slot is of another version
abbrev pub current : {K : Type 0} → ℕ → Option (Slot K) → Option (K × ℕ)
current version None = None
current version (Some slot) = if nat_eq slot.version version then Some (slot.key, slot.id) else None

-- no slot is of a later version
abbrev pub IsUpTo : {K : Type 0} → ℕ → Option (Slot K) → Type 0
IsUpTo version None = Unit {0}
IsUpTo version (Some slot) = slot.version ≤ version
