-- Search modes: at which offsets a search may start, and which patterns it may find.
use Rattle.std.specs.Prelude.{ℕ, Bool, true, false, Option, Some, None, ◌&&◌, ◌==◌, nat_lt, nat_le}
use Rattle.search_types.specs.declared.anchored.Anchored.{Anchored}
use Rattle.search_types.specs.declared.anchored.Anchored.TheVariants.{No, Yes, Pattern}

-- whether the mode ties a match to the start of the search
abbrev pub is_anchored : Anchored → Bool
is_anchored No = false
is_anchored Yes = true
is_anchored (Pattern p) = true

-- the pattern that the mode names
abbrev pub named_pattern : Anchored → Option ℕ
named_pattern No = None
named_pattern Yes = None
named_pattern (Pattern p) = Some p

-- the last offset at which a search from s to e may start
abbrev pub last_start : Anchored → ℕ → ℕ → ℕ
last_start No s e = e
last_start Yes s e = s
last_start (Pattern p) s e = s

-- whether a search from s to e may start at the offset i; if s is above e, there is no such offset
abbrev pub may_start : Anchored → ℕ → ℕ → ℕ → Bool
may_start mode s e i = nat_le s e && nat_le s i && nat_le i (last_start mode s e)

-- whether a search may find the pattern p of so many patterns
abbrev pub allowed : Anchored → ℕ → ℕ → Bool
allowed No count p = nat_lt p count
allowed Yes count p = nat_lt p count
allowed (Pattern named) count p = nat_lt p count && p == named

-- whether an automaton can search in this mode; a start state for each pattern makes the last one possible
abbrev pub is_supported : Bool → Anchored → Bool
is_supported starts_for_each_pattern No = true
is_supported starts_for_each_pattern Yes = true
is_supported starts_for_each_pattern (Pattern named) = starts_for_each_pattern
