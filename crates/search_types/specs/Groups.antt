-- Groups: for each pattern the names of its groups. A pattern's first group is its whole match and has no name.
-- Slots: two for each group, for the two ends of its span. Those of the first groups come first, pattern by pattern, then
-- those of the other groups.
use Rattle.std.specs.Prelude.{ℕ, zero, suc, ◌+◌, ◌-◌, ◌*◌, ◌==◌, Bool, false, nat_lt, List, [], ◌∷◌, length, take, slice_get, Option, Some}
use Rattle.std.specs.Prelude.{None, if◌then◌else◌}
use Rattle.std.specs.Option.{option_and_then}
use Rattle.std.specs.List.{position}
use Rattle.std.specs.Str.{bytes_eq}

-- a name as its bytes; the groups of a pattern; the groups of all patterns
abbrev pub Name : Type 0
Name = List ℕ

abbrev pub Groups : Type 0
Groups = List (List (Option Name))

-- the groups of a pattern; empty if there is no such pattern
abbrev pub groups_of : Groups → ℕ → List (Option Name)
groups_of [] p = []
groups_of (names ∷ rest) zero = names
groups_of (names ∷ rest) (suc p) = groups_of rest p

-- how many groups the patterns have in all, and how many without the first ones
abbrev pub all_group_len : Groups → ℕ
all_group_len [] = 0
all_group_len (names ∷ rest) = length names + all_group_len rest

abbrev pub explicit_group_len : Groups → ℕ
explicit_group_len [] = 0
explicit_group_len (names ∷ rest) = (length names - 1) + explicit_group_len rest

-- the slots of the first groups, of the other ones, and of all
abbrev pub implicit_slot_len : Groups → ℕ
implicit_slot_len gs = length gs * 2

abbrev pub explicit_slot_len : Groups → ℕ
explicit_slot_len gs = explicit_group_len gs * 2

abbrev pub slot_len : Groups → ℕ
slot_len gs = implicit_slot_len gs + explicit_slot_len gs

-- the first slot of a group that isn't the first of its pattern
abbrev pub explicit_slot : Groups → ℕ → ℕ → ℕ
explicit_slot gs p g = implicit_slot_len gs + explicit_slot_len (take p gs) + (g - 1) * 2

-- the first slot of group g of pattern p, if there is such a group
abbrev pub slot : Groups → ℕ → ℕ → Option ℕ
slot gs p g =
    if nat_lt g (length (groups_of gs p))
    then Some (if g == 0 then p * 2 else explicit_slot gs p g)
    else None

-- the name of group g of pattern p, if there is such a group and it has one
abbrev pub to_name : Groups → ℕ → ℕ → Option Name
to_name gs p g = option_and_then (λ name. name) (slice_get (groups_of gs p) g)

-- whether a group has this name
abbrev pub is_named : Name → Option Name → Bool
is_named name None = false
is_named name (Some other) = bytes_eq name other

-- the index of the group of pattern p with this name, if there is one
abbrev pub to_index : Groups → ℕ → Name → Option ℕ
to_index gs p name = position (is_named name) (groups_of gs p)
