-- One program of the toolchain for all patterns, and one for each of them.
use Rattle.std.specs.Prelude.{ℕ, List, map, Box}
use Rattle.std.specs.declared.alloc.Global.{Global}
use Rattle.regex_hir.specs.Re.{Re}
use Rattle.pattern_search.specs.Texts.{AreReadAs}
use Rattle.pattern_fallback.specs.Fallbacks.{AreAlike, AreProgramsOfEach}
-- the spans that are found one after the other
pub use Rattle.pattern_fallback.specs.Fallbacks.{found_at, next_after, spans_following}
use Rattle.regex_meta.specs.Programs.{pattern_of}
use Rattle.regex_meta.specs.declared.program.Program.{Program}
use Rattle.regex_syntax.specs.Captures.{SameCaptures}
use Rattle.line_search.specs.Bounded.{bounded, line_pattern}
use Rattle.line_search.specs.Meant.{line_config}
use Rattle.line_search.specs.declared.patterns.PatternOptions.{PatternOptions}

-- These have the captures of what the patterns are parsed as, bounded.
abbrev pub AreBoundedOf : PatternOptions → List (List ℕ) → List Re → Type 0
AreBoundedOf how texts xs = (res : List Re) → AreReadAs (line_config how) texts res → AreAlike xs (map (bounded how) res)

-- The program searches for what the patterns are parsed as.
abbrev pub IsProgramOf : PatternOptions → List (List ℕ) → Program → Type 0
IsProgramOf how texts p = (res : List Re) → AreReadAs (line_config how) texts res → SameCaptures (pattern_of p) (line_pattern how res)

-- Each program searches for what its pattern is parsed as. There may be none of no more than one pattern.
abbrev pub AreProgramsOf : PatternOptions → List (List ℕ) → List (Box Program Global) → Type 0
AreProgramsOf how texts ps = (res : List Re) → AreReadAs (line_config how) texts res → AreProgramsOfEach (map (bounded how) res) ps
