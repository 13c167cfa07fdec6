-- Fewer words that lines are searched for, where nobody asks which word a line has. A line that has a word also has each word with which
-- that word begins.
use Rattle.std.specs.Prelude.{◌≡◌, ℕ, List, map}
use Rattle.hir_core.specs.Tree.{Tree, literal, alternation}
use Rattle.literal_search.specs.Literals.{KeepsAll, ListsPrefixes}
use Rattle.line_search.specs.Joined.{one_or_all}

-- These are some of the words, and each of the words begins with one of them.
pub record AreEnoughOf (words kept : List (List ℕ)) : Type 0 where
  pub listed : KeepsAll kept words
  pub begun : ListsPrefixes words kept

-- The first tree is an alternation of words, and the second one of words that are enough of these.
pub record HasFewerWords (x y : Tree) : Type 0 where
  pub words : List (List ℕ)
  pub kept : List (List ℕ)
  pub of_words : x ≡ alternation (map literal words)
  pub of_kept : y ≡ one_or_all (map literal kept)
  pub enough : AreEnoughOf words kept
