-- The bytes next to an offset of a byte string. An offset lies between two bytes: offset i is right before the byte
-- with index i.
use Rattle.std.specs.Prelude.{ℕ, zero, suc, List, Option, None, slice_get}

-- the byte right after the offset; None: the offset is the end of the bytes, or beyond it
abbrev pub byte_at : List ℕ → ℕ → Option ℕ
byte_at h i = slice_get h i

-- the byte right before the offset, the one at i - 1; None: the offset is the start of the bytes, or there is no such
-- byte
abbrev pub byte_before : List ℕ → ℕ → Option ℕ
byte_before h zero = None
byte_before h (suc i) = byte_at h i
