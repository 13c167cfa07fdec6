-- What the trees of several patterns as text find, in terms of what the toolchain's grammar reads in them.
use Rattle.std.specs.Prelude.{ℕ, Bool, List, All}
use Rattle.regex_hir.specs.Re.{Re}
use Rattle.regex_syntax.specs.declared.Config.{Config}
use Rattle.hir_core.specs.Tree.{Tree}
use Rattle.hir_core.specs.Facts.{LoopsRead}
use Rattle.regex_pair.specs.Pairs.{Pair}
use Rattle.hir_regex.specs.declared.settings.Settings.{Settings}
use Rattle.pattern_text.specs.SameEnds.{AreSameEnds, AreSameSpans}
use Rattle.pattern_search.specs.RegexAnswers.{AnswersAsRead}
use Rattle.pattern_search.specs.Searches.{SpansAsRead, StartsAsRead, FindsAsRead, ListsAsRead}
use Rattle.pattern_search.specs.Texts.{AreReadAs}

-- Each text is a pattern, and each tree prefers the ends and has the spans of the pattern at its index. So searches for the trees find
-- what the patterns match.
pub record FindsWhatIsWritten (config : Config) (texts : List (List ℕ)) (xs : List Tree) : Type 0 where
  pub patterns : List Re
  pub are_read : AreReadAs config texts patterns
  pub same_ends : AreSameEnds patterns xs
  pub same_spans : AreSameSpans patterns xs
  pub spans : SpansAsRead patterns xs
  pub starts : (utf8 : Bool) → StartsAsRead utf8 patterns xs
  pub finds : All LoopsRead xs → (utf8 : Bool) → FindsAsRead utf8 patterns xs
  pub lists : All LoopsRead xs → (utf8 : Bool) → ListsAsRead utf8 patterns xs

-- each text is a pattern, and a regex that is built of the trees answers what these patterns match
pub record AnswersWhatIsWritten (config : Config) (texts : List (List ℕ)) (xs : List Tree) (s : Settings) (p : Pair) : Type 0 where
  pub patterns : List Re
  pub are_read : AreReadAs config texts patterns
  pub answers : AnswersAsRead patterns xs s p
