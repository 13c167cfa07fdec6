-- What streams over patterns report, in the words of the toolchain's grammar and matcher.
use Rattle.std.specs.Prelude.{◌≡◌, ◌≤◌, ◌+◌, ℕ, Bool, true, List, Some, length}
use Rattle.std.specs.List.{slice_get}
use Rattle.regex_hir.specs.Re.{Re}
use Rattle.search_types.specs.Places.{counts}
use Rattle.pattern_search.specs.Searches.{IsMatchOf}
use Rattle.streams.specs.Lines.{lines_in}

-- The pattern matches a span of the input that ends at this offset. In UTF-8 the offset splits no character.
pub record IsEndOf (utf8 : Bool) (res : List Re) (h : List ℕ) (end pattern : ℕ) : Type 0 where
  pub start : ℕ
  pub within : start ≤ length h
  pub matches : IsMatchOf res h pattern start end
  pub counted : counts utf8 h end ≡ true

-- The pattern matches a span of a line of the input that ends at this offset, where the line is searched by itself.
pub record IsEndOfLine (utf8 : Bool) (res : List Re) (h : List ℕ) (end pattern : ℕ) : Type 0 where
  pub number : ℕ
  pub line : ℕ × List ℕ
  pub is : slice_get (lines_in 10 h) number ≡ Some line
  pub at : ℕ
  pub end_is : end ≡ line.0 + at
  pub ends : IsEndOf utf8 res line.1 at pattern
