-- Trees that are rounds of a class, one after the other.
use Rattle.std.specs.Prelude.{◌≡◌, ℕ, true, List, [], ◌∷◌, ⊤}
use Rattle.hir_core.specs.Tree.{Tree}
use Rattle.hir_core.specs.Means.{Looks}
use Rattle.hir_core.specs.PreferredEnds.{at_least, preferred_ends}
use Rattle.meta_regex.specs.Parts.{HasEndsOf}

-- the tree is at least so many rounds of the body, of which more are preferred
pub record RepeatsAtLeast (least : ℕ) (body x : Tree) : Type 0 where
  pub ends : (looks : Looks) (h : List ℕ) (i : ℕ) → preferred_ends looks h x i ≡ at_least h true (preferred_ends looks h body) least i

-- each of these trees has the ends of this one
abbrev pub HaveEndsOf : List Tree → Tree → Type 0
HaveEndsOf [] y = ⊤
HaveEndsOf (x ∷ xs) y = HasEndsOf x y × HaveEndsOf xs y
