-- The toolchain's programs of patterns, which search where the automata give up.
use Rattle.std.specs.Prelude.{◌≡◌, ℕ, Bool, List, Option, option_map, is_some, IfSome}
use Rattle.regex.specs.Search.{leftmost_in}
use Rattle.regex_hir.specs.Meaning.{alt_all}
use Rattle.regex_hir.specs.Re.{Re}
use Rattle.regex_meta.specs.Programs.{pattern_of}
use Rattle.regex_syntax.specs.Captures.{SameCaptures}
use Rattle.regex_syntax.specs.declared.Config.{Config}
use Rattle.regex_vm.specs.Found.{span}
use Rattle.pattern_fallback.specs.Fallbacks.{AreProgramsOfEach}
use Rattle.pattern_search.specs.Searches.{IsOfFirstPattern}
use Rattle.pattern_search.specs.Texts.{AreReadAs}
use Rattle.meta_regex.specs.Regexes.{as_found, span_of_row}
use Rattle.meta_regex.specs.declared.fallback.Fallbacks.{Fallbacks}
use Rattle.meta_regex.specs.declared.found_match.FoundMatch.{FoundMatch}

-- One program searches for the alternation of these patterns, and the others for each of them.
pub record AreFallbacksFor (res : List Re) (f : Fallbacks) : Type 0 where
  pub all : SameCaptures (pattern_of f.all.value) (alt_all res)
  pub each : AreProgramsOfEach res f.each.items

-- The programs search for what the patterns are parsed as.
abbrev pub AreFallbacksOf : Config → List (List ℕ) → Fallbacks → Type 0
AreFallbacksOf config texts f = (res : List Re) → AreReadAs config texts res → AreFallbacksFor res f

-- Whether the matcher finds a match of a pattern anywhere.
abbrev pub finds_any : Bool → List ℕ → Re → Bool
finds_any utf8 h a = is_some (leftmost_in utf8 a h 0)

-- This is the match that the matcher finds from an offset on, of the first pattern that matches there.
pub record IsFoundFor (utf8 : Bool) (res : List Re) (h : List ℕ) (at : ℕ) (o : Option FoundMatch) : Type 0 where
  pub span_is : option_map span (leftmost_in utf8 (alt_all res) h at) ≡ option_map span_of_row o
  pub pattern : IfSome o (λ f. IsOfFirstPattern res h (as_found f))
