-- What ends a line: one byte or two.
use Rattle.std.specs.Prelude.{◌<◌, ◌||◌, ◌==◌, ℕ, nat_lt, Bool, Option, Some, None, if◌then◌else◌}

-- a set of one or two bytes: the least of them, and the other one, if there is one
abbrev pub Terminator : Type 0
Terminator = ℕ × Option ℕ

-- whether the byte ends a line
abbrev pub ends_line : Terminator → ℕ → Bool
ends_line (a, None) b = a == b
ends_line (a, Some c) b = (a == b) || (c == b)

-- the set of the byte a alone, and that of a and b
abbrev pub one_of : ℕ → Terminator
one_of a = (a, None)

abbrev pub two_of : ℕ → ℕ → Terminator
two_of a b = if a == b then (a, None) else if nat_lt a b then (a, Some b) else (b, Some a)

-- the least byte first
abbrev pub IsTerminator : Terminator → Type 0
IsTerminator (a, None) = Unit {0}
IsTerminator (a, Some b) = a < b
