-- How many nodes a tree has: more than each of its parts, so that a recursion into parts ends.
use Rattle.std.specs.Prelude.{ℕ, ◌+◌, ◌≤◌, List, [], ◌∷◌}
use Rattle.std.proofs.Common.{arith}
use denote.Param.Weighed.{most}
use Rattle.hir_core.specs.Tree.{Tree, empty, literal, byte_class, char_class, look, repetition, capture, nothing, cat, never, alt, concat}
use Rattle.hir_core.specs.Tree.{alternation}

-- one for the node, and the weights of its parts
abbrev pub weight : Tree → ℕ
weight empty = 1
weight (literal bytes) = 1
weight (byte_class ranges) = 1
weight (char_class ranges) = 1
weight (look l) = 1
weight (repetition min most greedy x) = weight x + 1
weight (capture index name x) = weight x + 1
weight nothing = 1
weight (cat x y) = weight x + weight y + 1
weight never = 1
weight (alt x y) = weight x + weight y + 1

-- the parts of a concatenation weigh less than it, and those of an alternation
pub most_le-weight-concat : (xs : List Tree) → most (λ x. weight x + 1) xs ≤ weight (concat xs)
most_le-weight-concat [] = omega arith
most_le-weight-concat (x ∷ xs) = omega (arith, most_le-weight-concat xs)

pub most_le-weight-alternation : (xs : List Tree) → most (λ x. weight x + 1) xs ≤ weight (alternation xs)
most_le-weight-alternation [] = omega arith
most_le-weight-alternation (x ∷ xs) = omega (arith, most_le-weight-alternation xs)
