-- What a search for a tree finds: the span at the first offset that has one, with the end that is preferred there.
use Rattle.std.specs.Prelude.{◌≡◌, ℕ, ◌<◌, ◌≤◌, List, [], length, Some, slice_get}
use Rattle.hir_core.specs.Tree.{Tree}
use Rattle.hir_core.specs.PreferredEnds.{preferred_ends}
use Rattle.pattern_text.specs.SameEnds.{pattern_looks}

-- i is the first offset of the haystack, from s on, from which the tree has an end, and j is the end that it prefers
-- there
pub record IsFirstSpan (h : List ℕ) (x : Tree) (s i j : ℕ) : Type 0 where
  pub from : s ≤ i
  pub within : i ≤ length h
  pub preferred : slice_get (preferred_ends (pattern_looks h) h x i) 0 ≡ Some j
  pub before : (k : ℕ) → s ≤ k → k < i → preferred_ends (pattern_looks h) h x k ≡ []
