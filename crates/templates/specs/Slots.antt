-- What groups matched, if their offsets are in slots.
use Rattle.std.specs.Prelude.{ℕ, ◌+◌, ◌*◌, ◌==◌, ◌||◌, List, Option, Some, None, slice_index_or, if◌then◌else◌}
use Rattle.regex.specs.Replace.{bytes_of}
use Rattle.group_finder.specs.Slots.{no_offset}

-- What the slot with this number holds. A slot after the last one of a row holds no offset.
abbrev pub slot_in : List ℕ → ℕ → ℕ
slot_in slots k = slice_index_or slots k no_offset

-- What a group spans by the slots of a match, if it took part: its start and its end.
unfoldable pub span_in : List ℕ → ℕ → Option (ℕ × ℕ)
span_in slots n =
    if (slot_in slots (2 * n) == no_offset) || (slot_in slots (2 * n + 1) == no_offset) then None
    else Some (slot_in slots (2 * n), slot_in slots (2 * n + 1))

-- The bytes of a haystack that a group matched, or nothing if it took no part.
abbrev pub group_in : List ℕ → List ℕ → ℕ → List ℕ
group_in h slots n = bytes_of h (span_in slots n)
