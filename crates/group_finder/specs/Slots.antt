-- The slots of a match: two offsets for each group, its start and its end.
use Rattle.std.specs.Prelude.{ℕ, zero, suc, ◌+◌, ◌-◌, ◌^◌, List, map, Option, Some, None}
use Rattle.std.specs.List.{range_with_len}
use Rattle.regex_hir.specs.Find.{Match, slot_of}

-- What a slot holds if its group took no part in the match.
abbrev pub no_offset : ℕ
no_offset = 2 ^ 64 - 1

abbrev pub offset_or_none : Option ℕ → ℕ
offset_or_none None = no_offset
offset_or_none (Some i) = i

-- What the slot with this number holds. Group n starts at slot 2n and ends at slot 2n + 1. Group 0 is the whole match.
abbrev pub slot_value : Match → ℕ → ℕ
slot_value m zero = m.start
slot_value m (suc zero) = m.trace.end
slot_value m (suc (suc k)) = offset_or_none (slot_of m (k + 2))

-- The first n slots of a match. Slots after the last group of the pattern hold no offset, since nothing writes to them.
unfoldable pub slots_of : Match → ℕ → List ℕ
slots_of m n = map (slot_value m) (range_with_len 0 n)

-- The offset in a cell of the toolchain's engines, which holds the offset plus one, or 0 for none.
abbrev pub offset_of_cell : ℕ → ℕ
offset_of_cell zero = no_offset
offset_of_cell (suc i) = i
