-- Which lines of a haystack may have a match, by a regex built from trees that are changed to search blocks of lines.
use Rattle.std.specs.Prelude.{◌≡◌, ◌==◌, ℕ, ◌+◌, ◌-◌, ◌<◌, ◌≤◌, Bool, true, false, List, [], ◌∷◌, All, drop, length, slice_get, take}
use Rattle.std.specs.Prelude.{slice_range}
use Rattle.std.specs.Prelude.{Option, Some, Result, IfErr, IfOk}
use Rattle.std.specs.Prelude.{None, if◌then◌else◌}
use Rattle.std.specs.List.{position}
use Rattle.ucd_perl.specs.Perl.{is_word_char}
use Rattle.regex_hir.specs.Re.{Re}
use Rattle.hir_core.specs.Tree.{Tree}
use Rattle.line_trees.specs.LineTrees.{line_tree, has_crlf, reads_feed, HasNoFeedFrom}
use Rattle.line_trees.specs.WordlessTrees.{wordless_tree}
use Rattle.regex_pair.specs.Pairs.{Pair}
use Rattle.hir_regex.specs.Built.{IsBuilt, quit_bytes_for}
use Rattle.hir_regex.specs.Headline.{IsQuitNextTo}
use Rattle.growing_regex.specs.Earliest.{HasNoSpan, NoneEndsBefore, IsLeastEnd, earliest_search, looks_by}
use Rattle.pattern_search.specs.Texts.{AreReadAs}
use Rattle.line_search.specs.BoundedTrees.{IsTreeForLines}
use Rattle.line_search.specs.Meant.{line_config}
use Rattle.line_search.specs.declared.candidates.BlockFacts.{BlockFacts}
use Rattle.line_search.specs.declared.candidates.Reached.{Reached}
use Rattle.line_search.specs.declared.fault.Fault.{Fault}
use Rattle.line_search.specs.declared.fault.Fault.TheVariants.{NoMemory}
use Rattle.line_search.specs.declared.patterns.PatternOptions.{PatternOptions}
use Rattle.line_search.specs.Lines.{ended, searched, split_lines}
use Rattle.line_search.specs.Patterns.{has_match_in}
use Rattle.line_search.specs.Searchers.{IsMatchReported, line_settings}

-- What searches blocks: a regex, whether the tree of the patterns is searched for as it is, whether it consumes no line feed, and whether a
-- carriage return right before a line feed belongs to the end of a line.
pub record BlockRegex : Type 0 where
  pub regex : Pair
  pub exact : Bool
  pub feedless : Bool
  pub crlf : Bool

-- A regex, with what is known of searches by it.
abbrev pub block_regex : Pair → BlockFacts → BlockRegex
block_regex re p = record { regex = re; exact = p.exact; feedless = p.feedless; crlf = p.crlf }

-- The tree that is searched for: that of the patterns, or, unless it has to be exact, that tree without its looks at words by characters,
-- which matches more.
abbrev pub searched_tree : Bool → Tree → Tree
searched_tree exact x = if exact then x else wordless_tree x

-- The regex is built from the line tree of a tree that suffices for lines, or of that tree without its looks at words by characters. The
-- tree has no look-around assertion about carriage returns. If the regex is marked as feedless, the tree consumes no line feed, so a match
-- in a block lies in one line.
pub record IsCandidatesOf (how : PatternOptions) (texts : List (List ℕ)) (p : BlockRegex) : Type 0 where
  pub same : p.crlf ≡ how.crlf
  pub tree : Tree
  pub mean : IsTreeForLines how texts tree
  pub plain : has_crlf tree ≡ false
  pub feedless : p.feedless ≡ true → reads_feed tree ≡ false
  pub built : IsBuilt (line_tree how.crlf (searched_tree p.exact tree) ∷ []) line_settings p.regex

-- A line starts at this offset: it is the start of the haystack, or it is right after a line feed.
abbrev pub IsLineStart : List ℕ → ℕ → Type 0
IsLineStart text at = 0 < at → slice_get text (at - 1) ≡ Some 10

-- No line of the haystack has a match of the patterns as they are parsed.
abbrev pub HaveNoMatch : PatternOptions → List (List ℕ) → List ℕ → Type 0
HaveNoMatch how texts text =
    (res : List Re) → AreReadAs (line_config how) texts res → All (λ line. has_match_in how res (searched how.crlf line) ≡ false) (split_lines text)

-- If a line feed ends the line that starts at this offset, then the line has a match.
abbrev pub HasMatchAt : PatternOptions → List (List ℕ) → List ℕ → ℕ → Type 0
HasMatchAt how texts block at =
    (len : ℕ) → position (λ b. b == 10) (drop at block) ≡ Some len →
    IsMatchReported how texts (searched how.crlf (ended (take len (drop at block)))) true

-- The next line from the offset `at` on that may have a match. It starts at or after that offset, and is none if its start is the end of
-- the block. No line before it has a match. If it is known to have one, it has one.
pub record IsNextLine (how : PatternOptions) (texts : List (List ℕ)) (block : List ℕ) (at : ℕ) (r : Reached) : Type 0 where
  pub from : at ≤ r.start
  pub within : r.start ≤ length block
  pub starts : r.start < length block → IsLineStart block r.start
  pub passed : HaveNoMatch how texts (slice_range block at r.start)
  pub has : r.has ≡ true → HasMatchAt how texts block r.start

-- What a call returns that looks for this line. It fails only if memory runs out.
pub record ReachesLine (how : PatternOptions) (texts : List (List ℕ)) (block : List ℕ) (at : ℕ) (result : Result Reached Fault) : Type 0 where
  pub next : IfOk result (IsNextLine how texts block at)
  pub refused : IfErr result (λ e. e ≡ NoMemory)

-- Where a search of a block for these trees stops, if it starts at `at`. Either this offset is the least end of their spans in the block
-- from `at` on. Or a quit byte of the search is at this offset, and none of these spans ends before it.
pub data IsStop (xs : List Tree) (block : List ℕ) (at place : ℕ) : Type 0 where
  least_end : (p : ℕ) → IsLeastEnd xs (looks_by is_word_char line_settings block) block at (length block) p place → IsStop xs block at place
  quit_byte : (b : ℕ) → IsQuitNextTo (quit_bytes_for xs line_settings.dfa) (earliest_search block at (length block)) b place →
      NoneEndsBefore xs (looks_by is_word_char line_settings block) block at (length block) place → IsStop xs block at place

-- Where a search for the least end stops, if there is such a span or such a byte.
abbrev pub IsStopIfAny : List Tree → List ℕ → ℕ → Option ℕ → Type 0
IsStopIfAny xs block at None = HasNoSpan xs (looks_by is_word_char line_settings block) block at (length block)
IsStopIfAny xs block at (Some place) = IsStop xs block at place

-- A span ends at this offset, where the search stops.
abbrev pub IsEnd : List Tree → List ℕ → ℕ → ℕ → Type 0
IsEnd xs block at place = (p : ℕ) × IsLeastEnd xs (looks_by is_word_char line_settings block) block at (length block) p place

-- The search stops in the line that starts at `start`, or at the line feed before it.
pub record StopsInLine (xs : List Tree) (block : List ℕ) (at start : ℕ) : Type 0 where
  pub place : ℕ
  pub stop : IsStop xs block at place
  pub behind_feed : start ≤ place + 1
  pub within_line : HasNoFeedFrom block start place
