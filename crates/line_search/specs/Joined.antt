-- One tree for several: the alternation of their parts. It matches the same spans as the alternation of the trees, and prefers the same
-- ends.
use Rattle.std.specs.Prelude.{Bool, true, false, List, [], ◌∷◌, ◌++◌}
use Rattle.hir_core.specs.Tree.{Tree, capture, never, alt, alternation}

-- Whether the tree is an alternation or a capture.
abbrev pub has_parts : Tree → Bool
has_parts never = true
has_parts (alt x y) = true
has_parts (capture index name x) = true
has_parts _ = false

-- The parts of an alternation, the preferred ones first. A nested alternation is replaced by its parts. A capture records a span and
-- changes no match, so it is replaced by its body. Any other tree is its own only part.
abbrev pub parts_of : Tree → List Tree
parts_of never = []
parts_of (alt x y) = parts_of x ++ parts_of y
parts_of (capture index name x) = parts_of x
parts_of x = x ∷ []

-- The alternation of the parts, or the part itself if there is only one.
abbrev pub one_or_all : List Tree → Tree
one_or_all (x ∷ []) = x
one_or_all xs = alternation xs

-- One tree for several. A single tree stays as it is.
abbrev pub joined : List Tree → Tree
joined (x ∷ []) = x
joined xs = one_or_all (parts_of (alternation xs))
