-- The groups of all patterns in order, and where the slots of each pattern's explicit groups start.
use Rattle.std.specs.Prelude.{◌≡◌, ℕ, ◌+◌, ◌<◌, ◌≤◌, List, [], ◌∷◌, ◌++◌, length, drop, Option, None}
use Rattle.search_core.specs.Index.{greatest_index}
use Rattle.search_types.specs.Groups.{Name, Groups, groups_of, implicit_slot_len, slot_len}
use Rattle.search_types.specs.GroupFaults.{slots_end, group_fault}

-- the groups of pattern p from g on: the pattern's number, the group's index, and its name if it has one
abbrev pub named_from : ℕ → ℕ → List (Option Name) → List (ℕ × ℕ × Option Name)
named_from p g [] = []
named_from p g (name ∷ rest) = (p, g, name) ∷ named_from p (g + 1) rest

-- the groups of the patterns from p on
abbrev pub all_named_from : ℕ → Groups → List (ℕ × ℕ × Option Name)
all_named_from p [] = []
all_named_from p (names ∷ rest) = named_from p 0 names ++ all_named_from (p + 1) rest

-- all groups, pattern by pattern
abbrev pub all_named : Groups → List (ℕ × ℕ × Option Name)
all_named gs = all_named_from 0 gs

-- the groups from group g of pattern p on
abbrev pub left_from : Groups → ℕ → ℕ → List (ℕ × ℕ × Option Name)
left_from gs p g = named_from p g (drop g (groups_of gs p)) ++ all_named_from (p + 1) (drop (p + 1) gs)

-- p and g are the numbers of a group, or lie after all groups
abbrev pub IsGroupSlot : Groups → ℕ → ℕ → Type 0
IsGroupSlot gs p g = p < length gs → g < length (groups_of gs p)

-- the first explicit slot of each pattern, if those of the first one start here
abbrev pub starts_from : ℕ → Groups → List ℕ
starts_from start [] = []
starts_from start (names ∷ rest) = start ∷ starts_from (slots_end start names) rest

-- groups without a fault, with the starts of their explicit slots and how many slots there are
pub record IsLaidOut (gs : Groups) (starts : List ℕ) (len : ℕ) : Type 0 where
  pub sound : group_fault gs ≡ None
  pub starts_are : starts ≡ starts_from (implicit_slot_len gs) gs
  pub len_is : len ≡ slot_len gs
  pub in_range : len ≤ greatest_index
