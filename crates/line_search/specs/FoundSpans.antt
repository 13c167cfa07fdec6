-- The spans that are found in a line one after the other, for the patterns as they are parsed.
use Rattle.std.specs.Prelude.{◌≡◌, ℕ, List, Option}
use Rattle.regex_hir.specs.Re.{Re}
use Rattle.pattern_search.specs.Texts.{AreReadAs}
use Rattle.line_search.specs.Bounded.{line_pattern}
use Rattle.line_search.specs.Fallbacks.{found_at, next_after}
use Rattle.line_search.specs.Meant.{line_config}
use Rattle.line_search.specs.declared.patterns.PatternOptions.{PatternOptions}

-- The span of the leftmost match that starts at an offset or after it, for the patterns as they are parsed.
abbrev pub IsFoundSpan : PatternOptions → List (List ℕ) → List ℕ → ℕ → Option (ℕ × ℕ) → Type 0
IsFoundSpan how texts line at reported = (res : List Re) → AreReadAs (line_config how) texts res →
    reported ≡ found_at (line_pattern how res) line at

-- The next span after one that ended at this offset.
abbrev pub IsNextSpan : PatternOptions → List (List ℕ) → List ℕ → ℕ → Option (ℕ × ℕ) → Type 0
IsNextSpan how texts line end reported = (res : List Re) → AreReadAs (line_config how) texts res →
    reported ≡ next_after (found_at (line_pattern how res) line) end
