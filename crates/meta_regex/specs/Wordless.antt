-- Searches for the patterns without their looks at words by characters.
use Rattle.std.specs.Prelude.{◌≡◌, ◌≤◌, ◌&&◌, ℕ, Bool, false, List, [], ◌∷◌, Option, Some, None, map, length}
use Rattle.regex_hir.specs.Re.{Re}
use Rattle.regex_hir.specs.Meaning.{alt_all}
use Rattle.regex_syntax.specs.declared.Config.{Config}
use Rattle.look_core.specs.Terminators.{one_of}
use Rattle.hir_core.specs.Tree.{Tree}
use Rattle.line_trees.specs.WordlessTrees.{wordless_tree}
use Rattle.search_types.specs.declared.match_kind.MatchKind.{MatchKind}
use Rattle.lazy_dfa.specs.ConfigValue.{kind_of}
use Rattle.regex_pair.specs.Pairs.{Pair}
use Rattle.hir_regex.specs.declared.settings.Settings.{Settings}
use Rattle.hir_regex.specs.Built.{IsBuilt}
use Rattle.pattern_search.specs.Searches.{found_from, which_match}
use Rattle.pattern_search.specs.Texts.{AllMean, AreReadAs}

-- Automata that are built from the trees of these patterns without their looks at words by characters. They search any bytes for matches
-- of this kind.
pub record AreWordlessOf (config : Config) (texts : List (List ℕ)) (kind : MatchKind) (p : Pair) : Type 0 where
  pub trees : List Tree
  pub settings : Settings
  pub mean : AllMean config texts trees
  pub built : IsBuilt (map wordless_tree trees) settings p
  pub kind_is : kind_of settings.dfa ≡ kind
  pub lines : settings.line_terminator ≡ one_of 10
  pub any_bytes : settings.utf8 ≡ false

-- The matcher finds the same from this other offset on as from `at` on. If there is no other offset, it finds nothing from `at` on.
abbrev pub MayBeginAt : Config → List (List ℕ) → List ℕ → ℕ → Option ℕ → Type 0
MayBeginAt config texts h at None = (res : List Re) → AreReadAs config texts res → found_from config.utf8 (alt_all res) h at ≡ None
MayBeginAt config texts h at (Some s) = (s ≤ length h) × ((res : List Re) → AreReadAs config texts res →
    found_from config.utf8 (alt_all res) h at ≡ found_from config.utf8 (alt_all res) h s)

-- Element by element, whether both tests are true.
abbrev pub both_true : List Bool → List Bool → List Bool
both_true [] bs = []
both_true (a ∷ more) [] = []
both_true (a ∷ more) (b ∷ bs) = (a && b) ∷ both_true more bs

-- There is a test for each pattern, and a pattern of which it is false has no match.
abbrev pub MayMatch : Config → List (List ℕ) → List ℕ → List Bool → Type 0
MayMatch config texts h may = (res : List Re) → AreReadAs config texts res →
    both_true may (which_match config.utf8 res h) ≡ which_match config.utf8 res h
