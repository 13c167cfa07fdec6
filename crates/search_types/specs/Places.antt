-- Which offsets of a haystack count as the start or the end of a match.
use Rattle.std.specs.Prelude.{ℕ, Bool, ◌||◌, not, List}
use Rattle.search_core.specs.Utf8.{is_boundary}

-- in UTF-8 mode an offset inside a spelling doesn't count
abbrev pub counts : Bool → List ℕ → ℕ → Bool
counts utf8 h j = not utf8 || is_boundary h j
