-- One part of a concatenation or an alternation weighs less than it, and both weigh the same.
use Rattle.std.proofs.Common.{◌≡◌, ℕ, zero, suc, ◌<◌, List, [], ◌∷◌, length, get_or, refl, arith}
use Rattle.hir_core.specs.Tree.{Tree, concat, alternation}
use Rattle.hir_core.specs.Weight.{weight}

pub weight_in_concat : (xs : List Tree) (i : ℕ) (d : Tree) → i < length xs → weight (get_or xs i d) < weight (concat xs)
weight_in_concat [] i d l = absurd (omega arith)
weight_in_concat (x ∷ xs) zero d l = omega arith
weight_in_concat (x ∷ xs) (suc i) d l = omega (arith, weight_in_concat xs i d (omega arith))

pub weight_of_either : (xs : List Tree) → weight (alternation xs) ≡ weight (concat xs)
weight_of_either [] = refl
weight_of_either (x ∷ xs) = omega (arith, weight_of_either xs)
