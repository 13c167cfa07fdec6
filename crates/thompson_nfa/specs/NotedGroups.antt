-- The groups that a compile notes: those of the captures that it keeps, in the order of the tree.
use Rattle.std.specs.Prelude.{◌≡◌, ◌⊎◌, ℕ, zero, suc, ◌==◌, Bool, true, false, List, [], ◌∷◌, Some, None, if◌then◌else◌}
use Rattle.hir_core.specs.Tree.{Tree, empty, literal, byte_class, char_class, look, repetition, capture, nothing, cat, never, alt}
use Rattle.search_types.specs.Groups.{Groups}
use Rattle.nfa_core.specs.BuilderStates.{with_group}
use Rattle.thompson_nfa.specs.declared.which_captures.WhichCaptures.{WhichCaptures}
use Rattle.thompson_nfa.specs.declared.which_captures.WhichCaptures.TheVariants as which

-- whether states are made for the group with this index
abbrev pub keeps_group : WhichCaptures → ℕ → Bool
keeps_group which.All index = true
keeps_group which.Implicit index = index == 0
keeps_group which.None index = false

-- the groups with those of pattern p's tree
abbrev pub with_groups_of : WhichCaptures → ℕ → Tree → Groups → Groups
with_groups_of kept p empty groups = groups
with_groups_of kept p (literal bytes) groups = groups
with_groups_of kept p (byte_class ranges) groups = groups
with_groups_of kept p (char_class ranges) groups = groups
with_groups_of kept p (look l) groups = groups
with_groups_of kept p (repetition min (Some zero) greedy x) groups = groups
with_groups_of kept p (repetition min most greedy x) groups = with_groups_of kept p x groups
with_groups_of kept p (capture index name x) groups =
    with_groups_of kept p x (if keeps_group kept index then with_group groups p index name else groups)
with_groups_of kept p nothing groups = groups
with_groups_of kept p (cat x y) groups = with_groups_of kept p y (with_groups_of kept p x groups)
with_groups_of kept p never groups = groups
with_groups_of kept p (alt x y) groups = with_groups_of kept p y (with_groups_of kept p x groups)

-- the tree has a group with this index, which is kept
abbrev pub HasGroup : WhichCaptures → ℕ → Tree → Type 0
HasGroup kept index (repetition min most greedy x) = HasGroup kept index x
HasGroup kept index (capture other name x) = ((index ≡ other) × (keeps_group kept index ≡ true)) ⊎ HasGroup kept index x
HasGroup kept index (cat x y) = HasGroup kept index x ⊎ HasGroup kept index y
HasGroup kept index (alt x y) = HasGroup kept index x ⊎ HasGroup kept index y
HasGroup kept index _ = ⊥

-- all patterns' groups, from pattern p on; each pattern's whole match is its group 0
abbrev pub noted_from : WhichCaptures → ℕ → List Tree → Groups → Groups
noted_from kept p [] groups = groups
noted_from kept p (x ∷ xs) groups = noted_from kept (suc p) xs (with_groups_of kept p (capture 0 None x) groups)
