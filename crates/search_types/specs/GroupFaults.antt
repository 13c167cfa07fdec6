-- Which groups are rejected, and why: the first rule that they break.
use Rattle.std.specs.Prelude.{ℕ, ◌+◌, ◌-◌, ◌*◌, nat_lt, List, [], ◌∷◌, ◌++◌, length, map, Option, Some, None, is_some, if◌then◌else◌}
use Rattle.std.specs.Prelude.{String, string_bytes, Vec}
use Rattle.std.specs.Option.{option_map, option_or}
use Rattle.std.specs.List.{position}
use Rattle.search_core.specs.Index.{greatest_index}
use Rattle.search_types.specs.Groups.{Name, Groups, implicit_slot_len, is_named}

-- the names in a list of strings, and in such a list for each pattern
abbrev pub names_in : {A : Type 0} → List (Option (String A)) → List (Option Name)
names_in names = map (option_map string_bytes) names

abbrev pub groups_in : {A B : Type 0} → List (Vec (Option (String A)) B) → Groups
groups_in groups = map (λ names. names_in names.items) groups

-- a broken rule: the number of the pattern, and what else locates the fault
pub data GroupFault : Type 0 where
  -- the pattern's number is above the greatest index
  TooManyPatterns : ℕ → GroupFault
  -- the pattern has at least so many groups, for which there are no indices or no slots
  TooManyGroups : ℕ → ℕ → GroupFault
  -- the pattern has no groups
  MissingGroups : ℕ → GroupFault
  -- the pattern's first group has a name
  FirstMustBeUnnamed : ℕ → GroupFault
  -- two groups of the pattern have this name
  Duplicate : ℕ → Name → GroupFault

-- whether a name is that of an earlier group
abbrev pub name_fault : ℕ → List (Option Name) → Option Name → Option GroupFault
name_fault p earlier None = None
name_fault p earlier (Some name) =
    if is_some (position (is_named name) earlier) then Some (Duplicate p name) else None

-- what is wrong with a group of pattern p that has this name or none, if the earlier groups have these names
abbrev pub group_fault_after : ℕ → List (Option Name) → Option Name → Option GroupFault
group_fault_after p earlier name =
    if nat_lt greatest_index (length earlier)
    then Some (TooManyGroups p (length earlier))
    else name_fault p earlier name

-- what is wrong with the groups of pattern p from here on
abbrev pub fault_after : ℕ → List (Option Name) → List (Option Name) → Option GroupFault
fault_after p earlier [] = None
fault_after p earlier (name ∷ rest) =
    option_or (group_fault_after p earlier name) (fault_after p (earlier ++ name ∷ []) rest)

-- what is wrong with the groups of pattern p
abbrev pub pattern_fault : ℕ → List (Option Name) → Option GroupFault
pattern_fault p [] = Some (MissingGroups p)
pattern_fault p (Some name ∷ rest) = Some (FirstMustBeUnnamed p)
pattern_fault p (None ∷ rest) = fault_after p (None ∷ []) rest

-- what is wrong with the groups of pattern p, whose number may be too great
abbrev pub numbered_fault : ℕ → List (Option Name) → Option GroupFault
numbered_fault p names = if nat_lt greatest_index p then Some (TooManyPatterns p) else pattern_fault p names

-- the first fault of the patterns from p on
abbrev pub names_fault : ℕ → Groups → Option GroupFault
names_fault p [] = None
names_fault p (names ∷ rest) = option_or (numbered_fault p names) (names_fault (p + 1) rest)

-- where the slots of a pattern's explicit groups end, if they start here
abbrev pub slots_end : ℕ → List (Option Name) → ℕ
slots_end start names = start + (length names - 1) * 2

-- whether there are too many slots for the groups of pattern p, whose explicit slots end here
abbrev pub end_fault : ℕ → List (Option Name) → ℕ → Option GroupFault
end_fault p names end = if nat_lt greatest_index end then Some (TooManyGroups p (length names)) else None

-- the first pattern from p on for whose groups there are too many slots, if its explicit slots start here
abbrev pub slots_fault : ℕ → ℕ → Groups → Option GroupFault
slots_fault p start [] = None
slots_fault p start (names ∷ rest) =
    option_or (end_fault p names (slots_end start names)) (slots_fault (p + 1) (slots_end start names) rest)

-- the first rule that the groups break
abbrev pub group_fault : Groups → Option GroupFault
group_fault gs = option_or (names_fault 0 gs) (slots_fault 0 (implicit_slot_len gs) gs)
