-- A haystack read backwards.
use Rattle.std.specs.Prelude.{ℕ, ◌==◌, List, map, reverse, if◌then◌else◌}

-- the carriage return for the line feed, and the line feed for the carriage return
abbrev pub exchanged_byte : ℕ → ℕ
exchanged_byte b = if b == 0x0A then 0x0D else if b == 0x0D then 0x0A else b

-- backwards, with carriage returns and line feeds exchanged: so the pair of both keeps its order
abbrev pub exchanged : List ℕ → List ℕ
exchanged h = map exchanged_byte (reverse h)
