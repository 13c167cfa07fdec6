-- Literals by which lines are skipped, and strings that show which lines have a match.
use Rattle.std.specs.Prelude.{◌≡◌, ℕ, Bool, false, ◌||◌, List, Option, Some, None}
use Rattle.hir_core.specs.Means.{stands}
use Rattle.hir_core.specs.Tree.{Tree, literal, alt}
use Rattle.line_trees.specs.LineTrees.{line_tree, has_crlf, reads_feed}
use Rattle.literal_search.specs.Searches.{IsContainedIn}
use Rattle.line_search.specs.BoundedTrees.{IsTreeForLines}
use Rattle.line_search.specs.declared.patterns.PatternOptions.{PatternOptions}

-- Whether the haystack has a string of the tree at this offset. The strings of a tree are the literal that it is, or those of its
-- alternatives; any other tree has none.
abbrev pub has_string_at : List ℕ → ℕ → Tree → Bool
has_string_at h at (literal bytes) = stands h at bytes
has_string_at h at (alt x y) = has_string_at h at x || has_string_at h at y
has_string_at h at _ = false

-- Whether the haystack has a string of the tree at this offset, if there is a tree.
abbrev pub has_any_string_at : List ℕ → ℕ → Option Tree → Bool
has_any_string_at h at (Some x) = has_string_at h at x
has_any_string_at h at None = false

-- It suffices to find the lines that these patterns match. It has no look-around assertion about carriage returns and consumes no line feed, and no carriage
-- return belongs to the end of a line. So a line with one of its strings has a match.
pub record HasStringsOf (how : PatternOptions) (texts : List (List ℕ)) (x : Tree) : Type 0 where
  pub mean : IsTreeForLines how texts x
  pub plain : has_crlf x ≡ false
  pub lone : how.crlf ≡ false
  pub feedless : reads_feed x ≡ false

-- Each span of the line tree of a tree that suffices for lines contains one of the literals. The tree has no look-around assertion about
-- carriage returns.
pub record AreLiteralsOf (how : PatternOptions) (texts literals : List (List ℕ)) : Type 0 where
  pub tree : Tree
  pub mean : IsTreeForLines how texts tree
  pub plain : has_crlf tree ≡ false
  pub contained : IsContainedIn literals (line_tree how.crlf tree)
