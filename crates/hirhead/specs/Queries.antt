-- What a query says of the patterns for which it was printed.
use Rattle.std.specs.Prelude.{◌≡◌, ℕ, ◌≤◌, Bool, IsTrue, List, [], ◌∷◌, ◌++◌, map, length, All, chars, IsSomeAnd, ⊤}
use Rattle.regex_syntax.specs.declared.Config.{Config}
use Rattle.regex_syntax.specs.Grammar.{read}
use Rattle.hir_core.specs.Tree.{Tree}
use Rattle.hir_core.specs.Facts.{is_utf8_tree}
use Rattle.hirscan.specs.Reads.{Reads}
use Rattle.hirscan.specs.Takes.{QueryValue, at_first, with_utf8}
use Rattle.pattern_text.specs.SameEnds.{SameEnds, SameSpans}
use Rattle.pattern_search.specs.Texts.{AllMean, IsFirstFault}
use Rattle.hirhead.specs.declared.heads.Cause.TheVariants.{Text, Lines}
use Rattle.hirhead.specs.declared.heads.Cause.{Cause}
use Rattle.hirhead.specs.Written.{printed_tree}
use Rattle.hirhead.specs.HasLines.{AreUnfit}

-- what the query of these trees is read as, up to its end
abbrev pub read_of : Bool → List Tree → QueryValue
read_of utf8 xs = record { setup = with_utf8 utf8 at_first.setup; stack = []; patterns = map printed_tree xs }

-- The grammar reads the text as a pattern within the limit on nesting, and the tree prefers the ends that this pattern does and
-- has the same spans. That is all that `MeansText` says but for the names of groups, which the notation doesn't have.
unfoldable pub MatchesText : Config → List ℕ → Tree → Type 0
MatchesText config text x = IsSomeAnd (read config (chars text)) (λ (re, names).
    (re.depth ≤ config.nest_limit) × SameEnds re.value x × SameSpans re.value x)

-- each tree matches as the text with the same number
abbrev pub AllMatch : Config → List (List ℕ) → List Tree → Type 0
AllMatch config [] [] = ⊤
AllMatch config (t ∷ ts) (x ∷ xs) = MatchesText config t x × AllMatch config ts xs
AllMatch config _ _ = ⊥

-- Whatever haystack comes after it, the query is read up to there. Each of its patterns matches as the text with the same number.
-- It sets nothing but UTF-8 mode, which is that of these patterns. If UTF-8 mode is on, no pattern is rejected as not being
-- UTF-8.
pub record IsQueryOf (config : Config) (texts : List (List ℕ)) (head : List ℕ) : Type 0 where
  pub found : QueryValue
  pub reads : (haystack : List ℕ) → Reads (head ++ haystack) at_first found (length head)
  pub setup_is : found.setup ≡ with_utf8 config.utf8 at_first.setup
  pub stack_is : found.stack ≡ []
  pub matches : AllMatch config texts found.patterns
  pub is_utf8 : IsTrue config.utf8 → All (λ x. IsTrue (is_utf8_tree x)) found.patterns

-- the first text that is no pattern is rejected; or all are patterns, and one is rejected whose tree has no lines, or lines that
-- make a tree that is too deep
abbrev pub IsQueryRejected : Config → List (List ℕ) → ℕ → Cause → Type 0
IsQueryRejected config texts number (Text error) = IsFirstFault config texts number error
IsQueryRejected config texts number (Lines unfit) = (xs : List Tree) × AllMean config texts xs × AreUnfit 250 xs number unfit
