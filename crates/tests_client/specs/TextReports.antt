-- The answers to a client that passes patterns as text.
use Rattle.std.specs.Prelude.{◌≡◌, ℕ, Bool, List, map}
use Rattle.regex_hir.specs.Re.{Re}
use Rattle.regex_hir.specs.Meaning.{alt_all}
use Rattle.regex_syntax.specs.declared.Config.{Config}
use Rattle.hir_core.specs.Tree.{Tree}
use Rattle.search_types.specs.Found.{Found}
use Rattle.search_types.specs.Inputs.{Search}
use Rattle.regex_pair.specs.Pairs.{Pair}
use Rattle.regex_pair.specs.Taken.{IsWholeList}
use Rattle.hir_regex.specs.declared.settings.Settings.{Settings}
use Rattle.hir_regex.specs.Built.{IsBuilt}
use Rattle.pattern_search.specs.Searches.{all_found, span_of_match, span_of_found}
use Rattle.pattern_search.specs.Texts.{AreReadAs}

-- it is one over a regex that is built of the trees
pub record IsListed (xs : List Tree) (s : Settings) (q : Search) (fs : List Found) : Type 0 where
  pub pair : Pair
  pub built : IsBuilt xs s pair
  pub list : IsWholeList pair q fs

-- these have the spans of all matches that the toolchain's matcher finds for the patterns, as they are read
-- from the text
pub record AreAllMatches (config : Config) (texts : List (List ℕ)) (utf8 : Bool) (h : List ℕ) (fs : List Found) : Type 0 where
  pub patterns : List Re
  pub are_read : AreReadAs config texts patterns
  pub all : map span_of_match (all_found utf8 (alt_all patterns) h) ≡ map span_of_found fs
