-- How many bytes the states of a compile of a list of trees take.
use Rattle.std.specs.Prelude.{ℕ, ◌+◌, Bool, false, List, [], ◌∷◌, None, if◌then◌else◌}
use Rattle.hir_core.specs.Tree.{Tree, capture}
use Rattle.thompson_nfa.specs.ByteRoom.{Bound, tree_bytes}
use Rattle.thompson_nfa.specs.declared.which_captures.WhichCaptures.{WhichCaptures}

-- a pattern: its tree as group 0, and the state in which it matches
abbrev pub bytes_of_pattern : Bound → WhichCaptures → Tree → ℕ
bytes_of_pattern b which x = tree_bytes b which false (capture 0 None x) + 24

-- patterns, with the way to each of them
abbrev pub bytes_for : Bound → WhichCaptures → List Tree → ℕ
bytes_for b which [] = 0
bytes_for b which (x ∷ xs) = bytes_of_pattern b which x + 4 + bytes_for b which xs

-- patterns, and what leads to them: a state that leads nowhere, nothing if there is one pattern, or a choice
abbrev pub patterns_bytes : Bound → WhichCaptures → List Tree → ℕ
patterns_bytes b which [] = 24
patterns_bytes b which (x ∷ []) = bytes_of_pattern b which x
patterns_bytes b which (x ∷ y ∷ xs) = bytes_for b which (x ∷ y ∷ xs) + 24

-- what precedes them, and leads to them: one state if all trees are anchored, and otherwise a choice, a state that reads any byte
-- and one that leads back
abbrev pub start_bytes : Bool → ℕ
start_bytes anchored = if anchored then 24 else 88

abbrev pub compile_bytes : Bound → WhichCaptures → Bool → List Tree → ℕ
compile_bytes b which anchored xs = start_bytes anchored + patterns_bytes b which xs
