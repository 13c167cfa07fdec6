-- A concatenation and an alternation ask nothing of the node at their top.
use Rattle.std.proofs.Common.{List, [], ◌∷◌}
use Rattle.hir_core.specs.Tree.{Tree, concat, alternation}
use Rattle.hir_core.specs.Facts.{IsWellFormed}

pub IsWellFormed-concat : (xs : List Tree) → IsWellFormed (concat xs)
IsWellFormed-concat [] = tt
IsWellFormed-concat (x ∷ xs) = tt

pub IsWellFormed-alternation : (xs : List Tree) → IsWellFormed (alternation xs)
IsWellFormed-alternation [] = tt
IsWellFormed-alternation (x ∷ xs) = tt
