-- What an overlapping search over an automaton that is compiled from trees reports, in terms of what the trees mean.
use Rattle.std.specs.Prelude.{◌≡◌, ℕ, ◌≤◌, Bool, true, false, List}
use Rattle.look_core.specs.Looks.{holds, holds_ascii}
use Rattle.look_core.specs.Terminators.{Terminator}
use Rattle.hir_core.specs.Tree.{Tree}
use Rattle.search_types.specs.declared.match_kind.MatchKind.TheVariants.{All as AllMatches}
use Rattle.search_types.specs.Inputs.{Search}
use Rattle.search_types.specs.Modes.{is_anchored, may_start}
use Rattle.search_types.specs.Places.{counts}
use Rattle.thompson_nfa.specs.Configs.{Options, utf8_of, reverse_of, terminator_of}
use Rattle.thompson_nfa.specs.Compilations.{IsCompiled}
use Rattle.lazy_dfa.specs.ConfigValue.{kind_of}
use Rattle.lazy_dfa.specs.Dfas.{Dfa, IsDfa}
use Rattle.hir_regex.specs.Choices.{Query}
use Rattle.hir_regex.specs.LooseAnswers.{IsFindable}
use Rattle.hir_regex.specs.Regexes.{query_of}

-- An automaton that is compiled from the trees, for searches forward or in reverse, in this mode and with this
-- terminator. It finds all matches.
pub record IsOverlappingDfa (xs : List Tree) (reverse utf8 : Bool) (t : Terminator) (d : Dfa) : Type 0 where
  pub options : Options
  pub compiled : IsCompiled options xs d.nfa
  pub reads : reverse_of options ≡ reverse
  pub mode : utf8_of options ≡ utf8
  pub terminator : terminator_of options ≡ t
  pub dfa : IsDfa d
  pub finds_all : kind_of d.options ≡ AllMatches

-- Forward from offset s: a span of the pattern p that may be found ends at j, which counts. It starts where a match of
-- the search may start.
pub record IsReportedEnd (q : Query) (s j p : ℕ) : Type 0 where
  pub start : ℕ
  pub starts : may_start q.mode s q.end start ≡ true
  pub findable : IsFindable q start p j
  pub counted : counts q.utf8 q.haystack j ≡ true

-- In reverse, down to offset s: a span of the pattern p that may be found starts at i, which counts. It ends where the
-- search begins to read, or, if the search isn't anchored, there or below.
pub record IsReportedStart (q : Query) (s i p : ℕ) : Type 0 where
  pub end : ℕ
  pub ends : is_anchored q.mode ≡ true → end ≡ q.end
  pub above : s ≤ i
  pub findable : IsFindable q i p end
  pub counted : counts q.utf8 q.haystack i ≡ true

-- what a search has to report, forward or in reverse: pairs of an offset and a pattern
abbrev pub IsReportedOf : Bool → Query → ℕ → ℕ × ℕ → Type 0
IsReportedOf false q s x = IsReportedEnd q s x.0 x.1
IsReportedOf true q s x = IsReportedStart q s x.0 x.1

-- what it has to report if Unicode word looks are decided by ASCII bytes, and if they are decided by these word
-- characters
abbrev pub IsReportedAscii : List Tree → Bool → Bool → Terminator → Search → ℕ × ℕ → Type 0
IsReportedAscii xs reverse utf8 t q x = IsReportedOf reverse (query_of xs utf8 (holds_ascii t q.haystack) q) q.start x

abbrev pub IsReportedWith : (ℕ → Bool) → List Tree → Bool → Bool → Terminator → Search → ℕ × ℕ → Type 0
IsReportedWith words xs reverse utf8 t q x = IsReportedOf reverse (query_of xs utf8 (holds words t q.haystack) q) q.start x
