-- What a regex is made from, and what its searches return.
use Rattle.std.specs.Prelude.{◌≡◌, ◌≢◌, ◌⊎◌, ◌↔◌, ◌≤◌, ℕ, Bool, true, false, List, [], ◌∷◌, All, Option, Some, None, IfSome, map, length}
use Rattle.std.specs.Prelude.{option_map, is_some, take, ⊤, Result, IfErr, IfOk, Vec, replicate}
use Rattle.std.specs.declared.alloc.Global.{Global}
use Rattle.std.specs.List.{filter}
use Rattle.std.specs.Str.Lossy.{utf8_valid_len}
use Rattle.regex_hir.specs.Re.{Re}
use Rattle.regex_hir.specs.Meaning.{alt_all}
use Rattle.regex_hir.specs.Find.{find_after}
use Rattle.regex_syntax.specs.declared.Config.{Config}
use Rattle.search_core.specs.Utf8.{IsValidText}
use Rattle.look_core.specs.Terminators.{one_of}
use Rattle.hir_core.specs.Facts.{LoopsRead, is_utf8_tree}
use Rattle.hir_core.specs.Tree.{Tree}
use Rattle.search_types.specs.declared.match_kind.MatchKind.{MatchKind}
use Rattle.search_types.specs.declared.match_kind.MatchKind.TheVariants.{LeftmostFirst}
use Rattle.search_types.specs.Found.{Found}
use Rattle.lazy_dfa.specs.ConfigValue.{kind_of}
use Rattle.regex_pair.specs.Pairs.{Pair}
use Rattle.hir_regex.specs.declared.settings.Settings.{Settings}
use Rattle.hir_regex.specs.Built.{IsBuilt, FailsBuild}
use Rattle.hir_regex.specs.Loops.{first_empty_loop}
use Rattle.pattern_search.specs.Searches.{found_from, all_found, which_match, span_of_match, IsOfFirstPattern}
use Rattle.pattern_search.specs.Texts.{AreReadAs, AllMean, IsFirstFault}
use Rattle.meta_regex.specs.declared.errors.NewError.{NewError}
use Rattle.meta_regex.specs.declared.errors.NewError.TheVariants.{NoMemory, Text, EmptyLoop, Build}
use Rattle.meta_regex.specs.declared.errors.SearchError.{SearchError}
use Rattle.meta_regex.specs.declared.errors.SearchError.TheVariants.{NoMemory as NoneFree, NotUtf8, TooLarge, WrongMarkCount}
use Rattle.meta_regex.specs.declared.found_match.FoundMatch.{FoundMatch}
use Rattle.meta_regex.specs.declared.options.Options.{Options}
use Rattle.meta_regex.specs.Options.{config_of, settings_of}

-- What a contract sees of a regex: its options and patterns, and whether the body of every unbounded repetition in these consumes at least
-- one byte.
pub record RegexValue : Type 0 where
  pub options : Options
  pub texts : List (List ℕ)
  pub loops : Bool

-- How its patterns are parsed.
abbrev pub config_by : RegexValue → Config
config_by v = config_of v.options

-- Automata that are built from trees of these patterns, as they are parsed under these options. They find matches of this kind.
pub record AreBuiltOf (config : Config) (texts : List (List ℕ)) (kind : MatchKind) (p : Pair) : Type 0 where
  pub trees : List Tree
  pub settings : Settings
  pub mean : AllMean config texts trees
  pub built : IsBuilt trees settings p
  pub kind_is : kind_of settings.dfa ≡ kind
  pub lines : settings.line_terminator ≡ one_of 10
  pub mode : settings.utf8 ≡ config.utf8
  pub utf8_trees : config.utf8 ≡ true → All (λ x. is_utf8_tree x ≡ true) trees

-- Automata for these patterns. `loops` is true if and only if the body of every unbounded repetition in their trees consumes at least one
-- byte.
abbrev pub AreReportedOf : Config → List (List ℕ) → MatchKind → Bool → Pair → Type 0
AreReportedOf config texts kind loops p = (it : AreBuiltOf config texts kind p) × ((loops ≡ true) ↔ All LoopsRead it.trees)

-- A regex is made from these patterns under these options. The patterns have trees. `loops` is true if and only if the body of every
-- unbounded repetition in these consumes at least one byte. If the options don't allow empty loops, `loops` is true.
pub record IsMadeOf (o : Options) (texts : List (List ℕ)) (v : RegexValue) : Type 0 where
  pub options_are : v.options ≡ o
  pub texts_are : v.texts ≡ texts
  pub trees : List Tree
  pub mean : AllMean (config_of o) texts trees
  pub loops_told : (v.loops ≡ true) ↔ All LoopsRead trees
  pub loops_read : o.empty_loops ≡ false → v.loops ≡ true

-- Why no regex is made from patterns under these options.
abbrev pub IsNewError : Options → List (List ℕ) → NewError → Type 0
IsNewError o texts NoMemory = ⊤
IsNewError o texts (Text e) = IsFirstFault (config_of o) texts e.number e.error
IsNewError o texts (EmptyLoop number) =
    (o.empty_loops ≡ false) × ((xs : List Tree) × AllMean (config_of o) texts xs × (first_empty_loop xs ≡ Some number))
IsNewError o texts (Build e) = (xs : List Tree) × AllMean (config_of o) texts xs × FailsBuild xs (settings_of o LeftmostFirst) e

-- There are such bytes, they aren't UTF-8, and this offset is the length of their valid prefix.
abbrev pub IsNoText : Option (List ℕ) → ℕ → Type 0
IsNoText None at = ⊥
IsNoText (Some bytes) at = (at ≡ utf8_valid_len bytes) × (IsValidText bytes → ⊥)

-- Why a search of a haystack fails. With `NotUtf8`, the haystack has to be UTF-8 and isn't; the error has the length of its valid prefix.
-- With `NoneFree`, memory ran out. With `TooLarge`, a regex of the toolchain would be larger than allowed.
abbrev pub IsSearchError : Config → List ℕ → SearchError → Type 0
IsSearchError config h NoneFree = ⊤
IsSearchError config h (NotUtf8 at) = (config.utf8 ≡ true) × IsNoText (Some h) at
IsSearchError config h TooLarge = ⊤
IsSearchError config h WrongMarkCount = ⊥

-- Why a search for the patterns that match fails. In addition to the errors of a search, there has to be one mark for each pattern.
abbrev pub IsMatchingPatternsError : Config → List (List ℕ) → List ℕ → List ℕ → SearchError → Type 0
IsMatchingPatternsError config texts h marks e =
    ((length marks ≢ length texts) × (e ≡ WrongMarkCount)) ⊎ ((length marks ≡ length texts) × IsSearchError config h e)

-- A match as three numbers.
abbrev pub row_of : Found → FoundMatch
row_of f = record { pattern = f.pattern; start = f.start; end = f.end }

abbrev pub span_of_row : FoundMatch → ℕ × ℕ
span_of_row r = (r.start, r.end)

abbrev pub as_found : FoundMatch → Found
as_found r = record { pattern = r.pattern; start = r.start; end = r.end }

-- A match, if there is one, is a match of the first pattern that matches from its start.
abbrev pub HasPattern : Config → List (List ℕ) → List ℕ → Option FoundMatch → Type 0
HasPattern config texts h o = (res : List Re) → AreReadAs config texts res → IfSome o (λ f. IsOfFirstPattern res h (as_found f))

-- The result of a search from an offset on. It has the start that the toolchain's matcher finds for what the patterns are parsed as, or
-- there is no match if that finds none. It is a match of the first pattern that matches from there.
pub record HasFoundStart (config : Config) (texts : List (List ℕ)) (h : List ℕ) (at : ℕ) (o : Option FoundMatch) : Type 0 where
  pub start : (res : List Re) → AreReadAs config texts res →
      option_map (λ m. m.start) (found_from config.utf8 (alt_all res) h at) ≡ option_map (λ f. f.start) o
  pub pattern : HasPattern config texts h o

-- The result of a search also has the end that the toolchain's matcher finds.
abbrev pub HasFoundSpan : Config → List (List ℕ) → List ℕ → ℕ → Option FoundMatch → Type 0
HasFoundSpan config texts h at o = (res : List Re) → AreReadAs config texts res →
    option_map span_of_match (found_from config.utf8 (alt_all res) h at) ≡ option_map span_of_row o

-- What a search of a haystack from an offset on returns: where the match starts and of which pattern it is, its end if loops consume bytes, or
-- why the search fails.
pub record FindsFrom (config : Config) (texts : List (List ℕ)) (loops : Bool) (h : List ℕ) (at : ℕ)
    (result : Result (Option FoundMatch) SearchError) : Type 0 where
  pub found : IfOk result (HasFoundStart config texts h at)
  pub preferred : loops ≡ true → IfOk result (HasFoundSpan config texts h at)
  pub refused : IfErr result (IsSearchError config h)

-- The match that follows one with this end. An empty match right there is skipped.
abbrev pub IsNext : Config → List (List ℕ) → List ℕ → ℕ → Option FoundMatch → Type 0
IsNext config texts h end o = (res : List Re) → AreReadAs config texts res →
    option_map span_of_match (find_after (found_from config.utf8 (alt_all res) h) end) ≡ option_map span_of_row o

-- The reported answer to whether there is a match agrees with the matcher.
abbrev pub IsReported : Config → List (List ℕ) → List ℕ → Bool → Type 0
IsReported config texts h reported = (res : List Re) → AreReadAs config texts res →
    reported ≡ is_some (found_from config.utf8 (alt_all res) h 0)

-- What a call returns that reports whether there is a match, or why its search fails.
pub record ReportsAnyMatch (config : Config) (texts : List (List ℕ)) (h : List ℕ) (result : Result Bool SearchError) : Type 0 where
  pub reported : IfOk result (IsReported config texts h)
  pub refused : IfErr result (IsSearchError config h)

-- ---- all matches

-- The first list, followed by what the second has after that many elements, cut to the length of the second.
unfoldable pub overlaid : {A : Type 0} → List A → List A → List A
overlaid [] ys = ys
overlaid (x ∷ xs) [] = []
overlaid (x ∷ xs) (y ∷ ys) = x ∷ overlaid xs ys

-- The matcher finds `n` matches in all. The first of them are in the rows, as far as these have room. Each is a match of the first pattern
-- that matches from its start. The rows after them are unchanged.
pub record AreAll (config : Config) (texts : List (List ℕ)) (h : List ℕ) (n : ℕ) (old new : List FoundMatch) : Type 0 where
  pub count : (res : List Re) → AreReadAs config texts res → n ≡ length (all_found config.utf8 (alt_all res) h)
  pub rows : (res : List Re) → AreReadAs config texts res →
      map span_of_row new ≡ overlaid (map span_of_match (all_found config.utf8 (alt_all res) h)) (map span_of_row old)
  pub patterns : (res : List Re) → AreReadAs config texts res → All (λ r. IsOfFirstPattern res h (as_found r)) (take n new)

-- The matcher finds at least `n` matches. The first `n` of them are in the rows, as far as these have room. Each is a match of the first
-- pattern that matches from its start. The rows after them are unchanged.
pub record AreFirstOfAll (config : Config) (texts : List (List ℕ)) (h : List ℕ) (n : ℕ) (old new : List FoundMatch) : Type 0 where
  pub count : (res : List Re) → AreReadAs config texts res → n ≤ length (all_found config.utf8 (alt_all res) h)
  pub rows : (res : List Re) → AreReadAs config texts res →
      map span_of_row new ≡ overlaid (take n (map span_of_match (all_found config.utf8 (alt_all res) h))) (map span_of_row old)
  pub patterns : (res : List Re) → AreReadAs config texts res → All (λ r. IsOfFirstPattern res h (as_found r)) (take n new)

-- ---- which patterns match

-- For each pattern, the report says whether the matcher finds a match of it anywhere.
abbrev pub AreWhich : Config → List (List ℕ) → List ℕ → List Bool → Type 0
AreWhich config texts h reported = (res : List Re) → AreReadAs config texts res → reported ≡ which_match config.utf8 res h

-- A call returns such a report, or the error of a search.
pub record SaysWhich (config : Config) (texts : List (List ℕ)) (h : List ℕ) (result : Result (Vec Bool Global) SearchError) : Type 0 where
  pub reported : IfOk result (λ reported. AreWhich config texts h reported.items)
  pub refused : IfErr result (IsSearchError config h)

abbrev pub mark : Bool → ℕ
mark true = 1
mark false = 0

-- The number of tests that are true.
abbrev pub hits : List Bool → ℕ
hits reported = length (filter (λ b. b) reported)

-- Each pattern that matches is marked with 1, and each other one with 0. `n` patterns match.
pub record AreMarked (config : Config) (texts : List (List ℕ)) (h : List ℕ) (n : ℕ) (marks : List ℕ) : Type 0 where
  pub marked : (res : List Re) → AreReadAs config texts res → marks ≡ map mark (which_match config.utf8 res h)
  pub count : (res : List Re) → AreReadAs config texts res → n ≡ hits (which_match config.utf8 res h)

-- What a call returns that marks the patterns that match, and what it leaves of the marks. If it fails, all of them are 0.
pub record MarksWhich (config : Config) (texts : List (List ℕ)) (h old new : List ℕ) (result : Result ℕ SearchError) : Type 0 where
  pub marked : IfOk result (λ n. AreMarked config texts h n new)
  pub cleared : IfErr result (λ _. new ≡ replicate (length old) 0)
  pub cause : IfErr result (IsMatchingPatternsError config texts h old)
