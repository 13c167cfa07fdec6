-- How an offset in a text is shown: the line that has it, and a caret below the offset.
use Rattle.std.specs.Prelude.{◌≡◌, ℕ, ◌==◌, List, ◌∷◌, ◌++◌, length, take, drop, replicate, chars, codes}
use Rattle.std.specs.Str.{NoCharPasses}

-- no character is a line feed, 10
abbrev pub HasNoFeed : List ℕ → Type 0
HasNoFeed text = NoCharPasses (λ c. c == 10) text

-- what comes after the last line feed of a text, or all of it
pub data IsLastLine (text line : List ℕ) : Type 0 where
  no_feed_before : HasNoFeed text → line ≡ text → IsLastLine text line
  behind_feed : (above : List ℕ) → text ≡ above ++ 10 ∷ line → HasNoFeed line → IsLastLine text line

-- what comes before the first line feed of a text, or all of it
pub data IsFirstLine (text line : List ℕ) : Type 0 where
  no_feed_behind : HasNoFeed text → line ≡ text → IsFirstLine text line
  before_feed : (below : List ℕ) → text ≡ line ++ 10 ∷ below → HasNoFeed line → IsFirstLine text line

-- The line is indented by four spaces, 32. The caret, 94, is indented by four, and by as many more as the line has characters
-- before the offset. Each ends with a line feed.
pub record IsShown (text : List ℕ) (at : ℕ) (shown : List ℕ) : Type 0 where
  pub before : List ℕ
  pub behind : List ℕ
  pub before_is : IsLastLine (take at text) before
  pub behind_is : IsFirstLine (drop at text) behind
  pub shown_is : shown ≡ codes "    " ++ (before ++ (behind ++ (codes "\n    " ++ (replicate (length (chars before)) 32 ++ codes "^\n"))))
