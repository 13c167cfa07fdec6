-- Searches for patterns that are one or more rounds of a class of bytes or characters, as `[0-9]+` and `\w+`.
use Rattle.std.specs.Prelude.{◌≡◌, ℕ, ◌+◌, ◌<◌, ◌≤◌, ◌&&◌, Bool, true, false, nat_lt, not, List, [], ◌∷◌, All, length, slice_get, Some, None, IfSome}
use Rattle.search_core.specs.ByteSets.{has}
use Rattle.hir_core.specs.Tree.{Tree, byte_class, char_class}
use Rattle.hir_core.specs.Means.{Looks, is_member}
use Rattle.hir_core.specs.PreferredEnds.{at_least, preferred_ends}
use Rattle.literal_search.specs.Searches.{IsNextStart}
use Rattle.meta_regex.specs.declared.runs.NextRun.{NextRun}
use Rattle.meta_regex.specs.declared.runs.NextRun.TheVariants.{Found, Missing, From}
use Rattle.meta_regex.specs.declared.runs.Run.{Run}
use Rattle.meta_regex.specs.CharRounds.{AreCharsOf}
use Rattle.meta_regex.specs.FirstBytes.{AreFirstBytes}

-- whether the tree is a class that has this byte, or the character that this byte alone spells
abbrev pub has_byte : Tree → ℕ → Bool
has_byte (byte_class ranges) b = is_member ranges b
has_byte (char_class ranges) b = nat_lt b 0x80 && is_member ranges b
has_byte _ b = false

-- where a byte of the set is, the tree's one span is that byte, in any haystack
pub record AreMembers (set : List Bool) (x : Tree) : Type 0 where
  pub one : (looks : Looks) (h : List ℕ) (i b : ℕ) → All (λ b. b < 256) h → slice_get h i ≡ Some b → has set b ≡ true →
      preferred_ends looks h x i ≡ (i + 1) ∷ []

-- Each span of the body begins with a byte of the first set, which is searched for. Where a byte of the members is, that byte is its one
-- span. The others are searched for as ends of runs.
pub record AreRoundsOf (r : Run) (body : Tree) : Type 0 where
  pub first : AreFirstBytes r.first body
  pub starts : (b : ℕ) → b < 256 → has r.starts b ≡ has r.first b
  pub members : AreMembers r.members body
  pub others : (b : ℕ) → b < 256 → has r.ends b ≡ not (has r.members b)

-- the tree is at least so many rounds of such a body, of which more are preferred, and at least one; a table is that of the body's characters
pub record IsRunOf (r : Run) (x : Tree) : Type 0 where
  pub some : 0 < r.least
  pub body : Tree
  pub rounds : AreRoundsOf r body
  pub ends : (looks : Looks) (h : List ℕ) (i : ℕ) → preferred_ends looks h x i ≡ at_least h true (preferred_ends looks h body) r.least i
  pub chars : IfSome r.chars (λ table. AreCharsOf table.items body)

-- there is one tree, and it is such a run
pub record IsRunOfTrees (r : Run) (trees : List Tree) : Type 0 where
  pub tree : Tree
  pub only : trees ≡ tree ∷ []
  pub run : IsRunOf r tree

-- of the tree's ends from i on, j is the preferred one
pub record PrefersEnd (x : Tree) (h : List ℕ) (i j : ℕ) : Type 0 where
  pub others : Looks → List ℕ
  pub first : (looks : Looks) → preferred_ends looks h x i ≡ j ∷ others looks

-- the next span of the tree, that there is none, or a later offset before which none starts
abbrev pub IsNextRun : Tree → List ℕ → ℕ → NextRun → Type 0
IsNextRun x h at (Found i j) = IsNextStart x h at (Some i) × (i < j) × (j ≤ length h) × PrefersEnd x h i j
IsNextRun x h at Missing = IsNextStart x h at None
IsNextRun x h at (From s) = IsNextStart x h at (Some s)
