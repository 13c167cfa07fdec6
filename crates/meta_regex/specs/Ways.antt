-- How the matches of a regex are found.
use Rattle.std.specs.Prelude.{◌≡◌, ◌⊎◌, ℕ, Bool, List, [], ◌∷◌, ⊤}
use Rattle.regex_syntax.specs.declared.Config.{Config}
use Rattle.hir_core.specs.Tree.{Tree, alternation}
use Rattle.meta_regex.specs.declared.literal_starts.LiteralStarts.{LiteralStarts}
use Rattle.meta_regex.specs.declared.runs.NextRun.{NextRun}
use Rattle.meta_regex.specs.declared.runs.NextRun.TheVariants.{From}
use Rattle.meta_regex.specs.declared.sequences.Sequence.{Sequence}
use Rattle.meta_regex.specs.declared.ways.Way.{Way}
use Rattle.meta_regex.specs.declared.ways.Way.TheVariants.{Automata, Run, Sequence as Parts}
use Rattle.meta_regex.specs.Runs.{IsNextRun, IsRunOfTrees}
use Rattle.meta_regex.specs.Sequences.{IsSequenceOf}
use Rattle.meta_regex.specs.Starts.{AreTreesOf, DescribesStarts}

-- there is one tree, and it is such a sequence
pub record IsSequenceOfTrees (s : Sequence) (trees : List Tree) : Type 0 where
  pub tree : Tree
  pub only : trees ≡ tree ∷ []
  pub sequence : IsSequenceOf s tree

-- the spans of these trees are found so
abbrev pub IsWayOf : Way → List Tree → Type 0
IsWayOf Automata trees = ⊤
IsWayOf (Run r) trees = IsRunOfTrees r trees
IsWayOf (Parts s) trees = IsSequenceOfTrees s trees

-- the matches of these patterns are found so, with what is known of where they start
pub record HasWay (config : Config) (texts : List (List ℕ)) (loops : Bool) (starts : LiteralStarts) (way : Way) : Type 0 where
  pub trees : List Tree
  pub searched : AreTreesOf config texts loops trees
  pub described : DescribesStarts starts (alternation trees)
  pub found_so : IsWayOf way trees

-- there is one tree, and this is the next span of it, that there is none, or a later offset before which none starts
pub record IsNextOfOnly (trees : List Tree) (h : List ℕ) (at : ℕ) (next : NextRun) : Type 0 where
  pub tree : Tree
  pub only : trees ≡ tree ∷ []
  pub found : IsNextRun tree h at next

-- so, or nothing is found out
abbrev pub IsNextOf : List Tree → List ℕ → ℕ → NextRun → Type 0
IsNextOf trees h at next = (next ≡ From at) ⊎ IsNextOfOnly trees h at next
