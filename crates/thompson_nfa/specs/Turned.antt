-- In which order parts are met: from the first, or from the last if the automaton reads in reverse.
use Rattle.std.specs.Prelude.{ℕ, ◌+◌, ◌-◌, Bool, true, false, List, length, take, drop}

-- the index of the part that is met after so many
abbrev pub turned_position : Bool → ℕ → ℕ → ℕ
turned_position false i len = i
turned_position true i len = len - (i + 1)

-- the parts that are left after so many
abbrev pub left_after : {A : Type 0} → Bool → ℕ → List A → List A
left_after false i xs = drop i xs
left_after true i xs = take (length xs - i) xs
