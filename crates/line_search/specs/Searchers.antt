-- What a line searcher is built from, and what it reports about a line.
use Rattle.std.specs.Prelude.{◌≡◌, ◌⊎◌, ℕ, Bool, true, false, List, [], ◌∷◌, Some}
use Rattle.regex_hir.specs.Re.{Re}
use Rattle.regex_syntax.specs.Grammar.{Names}
use Rattle.hir_core.specs.Tree.{Tree}
use Rattle.lazy_dfa.specs.declared.build_error.BuildError.TheVariants.{NoMemory}
use Rattle.regex_pair.specs.Pairs.{Pair}
use Rattle.hir_regex.specs.declared.settings.Settings.{Settings}
use Rattle.hir_regex.specs.Built.{IsBuilt, FailsBuild, default_settings, program_settings}
use Rattle.hir_regex.specs.Loops.{first_empty_loop}
use Rattle.pattern_search.specs.Texts.{AllMean, AreReadAs, IsFirstFault}
use Rattle.line_search.specs.BoundedTrees.{IsTreeAskedFor, IsTreeForLines}
use Rattle.line_search.specs.Meant.{line_config}
use Rattle.line_search.specs.declared.patterns.PatternOptions.{PatternOptions}
use Rattle.line_search.specs.declared.searcher.SearcherError.{SearcherError}
use Rattle.line_search.specs.declared.searcher.SearcherError.TheVariants.{Text, EmptyLoop, Build}
use Rattle.line_search.specs.LineMatchers.{LineMatcher}
use Rattle.line_search.specs.Patterns.{finds_of, has_match_in, spans_in}
use Rattle.line_search.specs.Replacing.{all_names, replaced_spans, replaced_text}

-- The settings for searching lines, which may be any bytes.
abbrev pub line_settings : Settings
line_settings = record (program_settings (record default_settings { utf8 = false })) { size_limit = Some 62914560 }

-- The regex is built from a tree that suffices to find the lines that these patterns match.
pub record IsSearcherOf (how : PatternOptions) (texts : List (List ℕ)) (p : Pair) : Type 0 where
  pub tree : Tree
  pub mean : IsTreeForLines how texts tree
  pub built : IsBuilt (tree ∷ []) line_settings p

-- The reported answer to whether the line has a match is right for the patterns as they are parsed.
abbrev pub IsMatchReported : PatternOptions → List (List ℕ) → List ℕ → Bool → Type 0
IsMatchReported how texts line reported = (res : List Re) → AreReadAs (line_config how) texts res → reported ≡ has_match_in how res line

-- The reported spans are the matches of the line, for the patterns as they are parsed.
abbrev pub AreReported : PatternOptions → List (List ℕ) → List ℕ → List (ℕ × ℕ) → Type 0
AreReported how texts line reported = (res : List Re) → AreReadAs (line_config how) texts res → reported ≡ spans_in how res line

-- The line was replaced by these bytes, and what was written for its matches has these spans, for the patterns as they are parsed.
pub record AreReplaced (how : PatternOptions) (texts : List (List ℕ)) (template line bytes : List ℕ) (spans : List (ℕ × ℕ)) : Type 0 where
  pub bytes_are : (res : List Re) → AreReadAs (line_config how) texts res → bytes ≡ replaced_text how (all_names how texts) res template line
  pub spans_are : (res : List Re) → AreReadAs (line_config how) texts res → spans ≡ replaced_spans how (all_names how texts) res template line

-- What lines are searched for: the patterns, how they are interpreted, and whether the search may be asked for matches.
pub record Sought : Type 0 where
  pub how : PatternOptions
  pub texts : List (List ℕ)
  pub spans : Bool

-- The search finds in lines what the patterns match as they are parsed. It is asked for matches only if it may be. The groups of the patterns
-- have these names.
pub record SearchesFor (s : Sought) (spans : Bool) : Type 0 where
  pub may : spans ≡ true → s.spans ≡ true
  pub how : PatternOptions
  pub same : how ≡ s.how
  pub patterns : List Re
  pub are_read : AreReadAs (line_config how) s.texts patterns
  pub names : List Names
  pub named : names ≡ all_names how s.texts

abbrev pub found_by : {s : Sought} {spans : Bool} → SearchesFor s spans → LineMatcher
found_by by = finds_of by.how by.names by.patterns

-- Why no searcher is built from patterns. With `Text`, this is the first pattern that can't be parsed. With `EmptyLoop`, matches are asked
-- for, and this is the first pattern with an empty loop. With `Build`, no regex can be built from the tree that is asked for, or memory ran
-- out.
abbrev pub IsSearcherError : PatternOptions → List (List ℕ) → Bool → SearcherError → Type 0
IsSearcherError how texts spans (Text e) = IsFirstFault (line_config how) texts e.number e.error
IsSearcherError how texts spans (EmptyLoop number) =
    (spans ≡ true) × ((xs : List Tree) × AllMean (line_config how) texts xs × (first_empty_loop xs ≡ Some number))
IsSearcherError how texts spans (Build e) = (e ≡ NoMemory) ⊎
    ((x : Tree) × IsTreeAskedFor how texts spans x × FailsBuild (x ∷ []) line_settings e)
