-- Alternations of literals.
use Rattle.std.specs.Prelude.{ℕ, Bool, true, false, List, [], ◌∷◌, length, nat_le, ◌&&◌}
use Rattle.std.specs.List.{list_all}
use Rattle.hir_core.specs.Tree.{Tree, literal}
use Rattle.thompson_nfa.specs.LiteralStates.{spelt}

abbrev pub is_literal : Tree → Bool
is_literal (literal bytes) = true
is_literal _ = false

-- whether there are two parts or more, and all are literals
abbrev pub are_literals : List Tree → Bool
are_literals xs = nat_le 2 (length xs) && list_all is_literal xs

-- the bytes of a literal
abbrev pub bytes_of_literal : Tree → List ℕ
bytes_of_literal (literal bytes) = bytes
bytes_of_literal _ = []

-- the strings in which the literals are read
abbrev pub read_strings : Bool → List Tree → List (List ℕ)
read_strings back [] = []
read_strings back (x ∷ xs) = spelt back (bytes_of_literal x) ∷ read_strings back xs
