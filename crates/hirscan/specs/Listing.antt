-- What a loop over the matches of a regex has printed, and what may end it early.
use Rattle.std.specs.Prelude.{◌≡◌, ◌⊎◌, ℕ, List, ◌++◌, None}
use Rattle.std.specs.Borrow.{GName}
use Rattle.hir_core.specs.Tree.{Tree}
use Rattle.search_types.specs.declared.match_error.MatchErrorKind.{MatchErrorKind}
use Rattle.search_types.specs.declared.match_error.MatchErrorKind.TheVariants.{NoMemory, Quit}
use Rattle.search_types.specs.Found.{Found}
use Rattle.search_types.specs.Inputs.{Search}
use Rattle.regex_pair.specs.declared.find_matches.FindMatches.{FindMatches}
use Rattle.regex_pair.specs.FindSteps.{MayGoOn, finds_from, borrow_name_of, searches_by}
use Rattle.regex_pair.specs.Pairs.{Pair}
use Rattle.regex_pair.specs.Taken.{AreTaken}
use Rattle.hirscan.specs.declared.line.Setup.{Setup}
use Rattle.hirscan.specs.declared.ending.Ending.{Ending}
use Rattle.hirscan.specs.declared.ending.Ending.TheVariants as ending
use Rattle.hirscan.specs.Rejections.{rejection}
use Rattle.hirscan.specs.Reply.{finding_after, quit_line, span_lines}

-- nothing that shows in these patterns and this haystack makes the program reject them
abbrev pub IsSearched : Setup → List Tree → List ℕ → Type 0
IsSearched setup xs h = rejection setup xs h ≡ None

-- The iterator has returned the matches whose lines are the text. It has returned no error and hasn't ended, and it is
-- after the last of these matches. It is over this regex and over the reference of this name, and may go on.
pub record ListsUpTo (p : Pair) (q : Search) (lender : GName) (text : List ℕ) (it : FindMatches) : Type 0 where
  pub found : List Found
  pub text_is : text ≡ span_lines found
  pub taken : AreTaken p q found (finds_from it)
  pub stands : finds_from it ≡ finding_after q found
  pub same_regex : searches_by it ≡ p
  pub same_reference : borrow_name_of it ≡ lender
  pub goes_on : MayGoOn it

-- what may end a list before its end: a quit byte, or a failed allocation
abbrev pub MayEndList : MatchErrorKind → Type 0
MayEndList e = (e ≡ NoMemory) ⊎ ((b : ℕ) × (x : ℕ) × (e ≡ Quit b x))

-- the reply reports the quit byte after this text
pub record ReportsQuit (e : MatchErrorKind) (before : List ℕ) (end : Ending) (text : List ℕ) : Type 0 where
  pub byte : ℕ
  pub offset : ℕ
  pub quits : e ≡ Quit byte offset
  pub ending_is : end ≡ ending.Quit
  pub text_is : text ≡ before ++ quit_line byte offset
