-- What a matcher reports about a line.
use Rattle.std.specs.Prelude.{ℕ, Bool, List}
pub use Rattle.pattern_fallback.specs.Fallbacks.{span_pair}
use Rattle.line_search.specs.Lines.{SplitLine}

-- What is shown of a line: bytes, and the spans in them of its matches, or of what replaces these, from left to right.
pub record ShownLine : Type 0 where
  pub content : SplitLine
  pub spans : List (ℕ × ℕ)

-- What a matcher reports about a line: whether it has a match, the spans of all its matches, from left to right, and what is shown of the
-- line if the template of these bytes replaces them.
pub record LineMatcher : Type 0 where
  pub has_match : SplitLine → Bool
  pub spans : SplitLine → List (ℕ × ℕ)
  pub replaced : List ℕ → SplitLine → ShownLine
