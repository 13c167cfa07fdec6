-- Where the matches of patterns may start, by the literals or bytes that they begin with, or the literals that they contain.
use Rattle.std.specs.Prelude.{◌≡◌, ◌<◌, ℕ, ◌+◌, Bool, List, All, length, Option, Some, None, false, true, ⊤}
use Rattle.regex_hir.specs.Re.{Re}
use Rattle.regex_hir.specs.Meaning.{alt_all}
use Rattle.regex_syntax.specs.declared.Config.{Config}
use Rattle.hir_core.specs.Facts.{LoopsRead, is_utf8_tree}
use Rattle.hir_core.specs.Tree.{Tree, alternation}
use Rattle.line_trees.specs.LineTrees.{reads_feed}
use Rattle.literal_search.specs.Searches.{IsBegunBy, IsContainedIn}
use Rattle.search_types.specs.declared.anchored.Anchored.TheVariants.{Yes}
use Rattle.search_types.specs.Found.{Found}
use Rattle.search_types.specs.Inputs.{Search}
use Rattle.pattern_search.specs.Searches.{found_from}
use Rattle.pattern_search.specs.Texts.{AllMean, AreReadAs}
use Rattle.meta_regex.specs.declared.anchored.Tried.{Tried}
use Rattle.meta_regex.specs.declared.anchored.Tried.TheVariants.{Here, NotHere, GaveUp}
use Rattle.meta_regex.specs.declared.anchored.Sought.{Sought}
use Rattle.meta_regex.specs.declared.anchored.Sought.TheVariants.{Found as FoundOne, Missing, From}
use Rattle.meta_regex.specs.declared.anchored.Step.{Step}
use Rattle.meta_regex.specs.declared.anchored.Step.TheVariants.{Done, Next}
use Rattle.meta_regex.specs.declared.literal_starts.LiteralStarts.{LiteralStarts}
use Rattle.meta_regex.specs.declared.literal_starts.LiteralStarts.TheVariants.{Unknown, Begins, InLine, FirstByte}
use Rattle.meta_regex.specs.FirstBytes.{AreFirstBytes}
use Rattle.meta_regex.specs.declared.runs.NextRun.{NextRun}
use Rattle.meta_regex.specs.declared.runs.NextRun.TheVariants.{Found as FoundRun, Missing as NoRun, From as FromRun}
use Rattle.meta_regex.specs.Regexes.{HasFoundStart, HasFoundSpan, row_of}
use Rattle.meta_regex.specs.Wordless.{MayBeginAt}

-- each span of the tree contains one of the literals, and no line feed
pub record IsInLine (literals : List (List ℕ)) (x : Tree) : Type 0 where
  pub contained : IsContainedIn literals x
  pub feedless : reads_feed x ≡ false

-- what the literals say of the spans of a tree
abbrev pub DescribesStarts : LiteralStarts → Tree → Type 0
DescribesStarts Unknown x = ⊤
DescribesStarts (Begins literals) x = IsBegunBy literals x
DescribesStarts (InLine literals) x = IsInLine literals x
DescribesStarts (FirstByte set) x = AreFirstBytes set x

-- and of the matches of these patterns
pub record AreStartsOf (config : Config) (texts : List (List ℕ)) (starts : LiteralStarts) : Type 0 where
  pub trees : List Tree
  pub mean : AllMean config texts trees
  pub described : DescribesStarts starts (alternation trees)

-- a search of the whole haystack that may start at this offset alone
abbrev pub anchored_search : List ℕ → ℕ → Search
anchored_search h at = record { haystack = h; start = at; end = length h; anchored = Yes; earliest = false }

-- the matcher finds no match that starts at this offset
abbrev pub NoneStartsAt : Config → List (List ℕ) → List ℕ → ℕ → Type 0
NoneStartsAt config texts h at = (res : List Re) → AreReadAs config texts res →
    found_from config.utf8 (alt_all res) h at ≡ found_from config.utf8 (alt_all res) h (at + 1)

-- the result of that search
abbrev pub tried_of : Option Found → Tried
tried_of None = NotHere
tried_of (Some f) = Here (row_of f)

-- what is found at an offset: the match that starts there, or that none starts there
abbrev pub IsTried : Config → List (List ℕ) → List ℕ → ℕ → Tried → Type 0
IsTried config texts h at (Here f) = HasFoundStart config texts h at (Some f)
IsTried config texts h at NotHere = NoneStartsAt config texts h at
IsTried config texts h at GaveUp = ⊤

-- and the end of that match
abbrev pub HasTriedSpan : Config → List (List ℕ) → List ℕ → ℕ → Tried → Type 0
HasTriedSpan config texts h at (Here f) = HasFoundSpan config texts h at (Some f)
HasTriedSpan config texts h at NotHere = ⊤
HasTriedSpan config texts h at GaveUp = ⊤

-- what a try at an offset finds, and the end of the match if loops consume bytes
pub record TriesAt (config : Config) (texts : List (List ℕ)) (loops : Bool) (h : List ℕ) (at : ℕ) (o : Tried) : Type 0 where
  pub tried : IsTried config texts h at o
  pub preferred : loops ≡ true → HasTriedSpan config texts h at o

-- what is found from an offset on by trying others: the match, that there is none, or where a search may begin instead
abbrev pub IsSought : Config → List (List ℕ) → List ℕ → ℕ → Sought → Type 0
IsSought config texts h at (FoundOne f) = HasFoundStart config texts h at (Some f)
IsSought config texts h at Missing = MayBeginAt config texts h at None
IsSought config texts h at (From s) = MayBeginAt config texts h at (Some s)

-- and the end of that match
abbrev pub HasSoughtSpan : Config → List (List ℕ) → List ℕ → ℕ → Sought → Type 0
HasSoughtSpan config texts h at (FoundOne f) = HasFoundSpan config texts h at (Some f)
HasSoughtSpan config texts h at Missing = ⊤
HasSoughtSpan config texts h at (From s) = ⊤

-- what is found from an offset on, and the end of the match if loops consume bytes
pub record SeeksFrom (config : Config) (texts : List (List ℕ)) (loops : Bool) (h : List ℕ) (at : ℕ) (o : Sought) : Type 0 where
  pub sought : IsSought config texts h at o
  pub preferred : loops ≡ true → HasSoughtSpan config texts h at o

-- what comes after a try from an offset on: the search is over, or another try from a later offset finds the same
abbrev pub IsStep : Config → List (List ℕ) → List ℕ → ℕ → Step → Type 0
IsStep config texts h at (Done o) = IsSought config texts h at o
IsStep config texts h at (Next s) = (at < s) × MayBeginAt config texts h at (Some s)

-- and the end of that match
abbrev pub HasStepSpan : Config → List (List ℕ) → List ℕ → ℕ → Step → Type 0
HasStepSpan config texts h at (Done o) = HasSoughtSpan config texts h at o
HasStepSpan config texts h at (Next s) = ⊤

-- what comes after a try, and the end of the match if loops consume bytes
pub record StepsFrom (config : Config) (texts : List (List ℕ)) (loops : Bool) (h : List ℕ) (at : ℕ) (o : Step) : Type 0 where
  pub step : IsStep config texts h at o
  pub preferred : loops ≡ true → HasStepSpan config texts h at o

-- ---- searches without automata
-- trees of these patterns: with UTF-8 alone if that is required, and with bodies of loops that consume bytes if `loops` is true
pub record AreTreesOf (config : Config) (texts : List (List ℕ)) (loops : Bool) (trees : List Tree) : Type 0 where
  pub mean : AllMean config texts trees
  pub utf8 : config.utf8 ≡ true → All (λ x. is_utf8_tree x ≡ true) trees
  pub loops_read : loops ≡ true → All LoopsRead trees

-- what was found is what the search found: the match of the only pattern, that there is none, or where a search may begin instead
abbrev pub sought_of : NextRun → Sought
sought_of (FoundRun start end) = FoundOne (record { pattern = 0; start = start; end = end })
sought_of NoRun = Missing
sought_of (FromRun s) = From s
