-- The least end of the spans that trees match from an offset on, and what the result of a search forward for the earliest end says
-- about them.
use Rattle.std.specs.Prelude.{◌≡◌, ℕ, ◌≤◌, Bool, true, List, length, slice_get, Option, Some, None, Result, Ok, Err, ⊤}
use Rattle.look_core.specs.Looks.{holds}
use Rattle.hir_core.specs.Means.{Looks, Means}
use Rattle.hir_core.specs.Tree.{Tree}
use Rattle.search_types.specs.declared.anchored.Anchored.TheVariants.{No}
use Rattle.search_types.specs.declared.match_error.MatchErrorKind.{MatchErrorKind}
use Rattle.search_types.specs.declared.match_error.MatchErrorKind.TheVariants.{GaveUp, HaystackTooLong, NoMemory, NotAPair, Quit}
use Rattle.search_types.specs.declared.match_error.MatchErrorKind.TheVariants.{UnsupportedAnchored}
use Rattle.search_types.specs.Found.{HalfFound}
use Rattle.search_types.specs.Inputs.{Search}
use Rattle.lazy_dfa.specs.ConfigValue.{clears_of}
use Rattle.hir_regex.specs.declared.settings.Settings.{Settings}
use Rattle.hir_regex.specs.Built.{quit_bytes_for}
use Rattle.hir_regex.specs.Headline.{IsQuitNextTo}

-- The tree with the number p matches the span from i to j of the haystack, with looks read so. The span starts at the offset s or
-- later, and ends at e or before.
pub record IsSpanFrom (xs : List Tree) (looks : Looks) (h : List ℕ) (s e p i j : ℕ) : Type 0 where
  pub tree : Tree
  pub listed : slice_get xs p ≡ Some tree
  pub means : Means looks h tree i j
  pub from : s ≤ i
  pub within : j ≤ e

-- no tree matches such a span
abbrev pub HasNoSpan : List Tree → Looks → List ℕ → ℕ → ℕ → Type 0
HasNoSpan xs looks h s e = (p i j : ℕ) → IsSpanFrom xs looks h s e p i j → ⊥

-- none of them ends before the offset x
abbrev pub NoneEndsBefore : List Tree → Looks → List ℕ → ℕ → ℕ → ℕ → Type 0
NoneEndsBefore xs looks h s e x = (p i j : ℕ) → IsSpanFrom xs looks h s e p i j → x ≤ j

-- one of the tree with the number p ends at x, and none of any tree ends before that
pub record IsLeastEnd (xs : List Tree) (looks : Looks) (h : List ℕ) (s e p x : ℕ) : Type 0 where
  pub start : ℕ
  pub span : IsSpanFrom xs looks h s e p start x
  pub least : NoneEndsBefore xs looks h s e x

-- The least end of the spans of all trees, with a tree of which it is one; or there is none.
abbrev pub IsEarliest : List Tree → Looks → List ℕ → ℕ → ℕ → Option HalfFound → Type 0
IsEarliest xs looks h s e None = HasNoSpan xs looks h s e
IsEarliest xs looks h s e (Some f) = IsLeastEnd xs looks h s e f.pattern f.offset

-- the least end alone, or there is none
abbrev pub IsEarliestEnd : List Tree → Looks → List ℕ → ℕ → ℕ → Option ℕ → Type 0
IsEarliestEnd xs looks h s e None = HasNoSpan xs looks h s e
IsEarliestEnd xs looks h s e (Some x) = (p : ℕ) × IsLeastEnd xs looks h s e p x

-- the end alone that a search found, or its error
abbrev pub end_result : Result (Option HalfFound) MatchErrorKind → Result (Option ℕ) MatchErrorKind
end_result (Ok None) = Ok None
end_result (Ok (Some f)) = Ok (Some f.offset)
end_result (Err e) = Err e

-- a search of the haystack from the offset s to e that may start anywhere, and that may stop at the first end that it finds
abbrev pub earliest_search : List ℕ → ℕ → ℕ → Search
earliest_search h s e = record { haystack = h; start = s; end = e; anchored = No; earliest = true }

-- ---- of a regex that is built of the trees with these settings, with these words

abbrev pub looks_by : (ℕ → Bool) → Settings → List ℕ → Looks
looks_by words s h = holds words s.line_terminator h

-- What an error says about a search from the offset `at` to the haystack's end. If the error is a quit byte, that byte is in or next
-- to the span, and no span that starts at `at` or later has ended before it. Otherwise the search is out of memory, or it gave up. It
-- never gives up if no minimum number of clears is set.
abbrev pub IsEarliestError : (ℕ → Bool) → List Tree → Settings → List ℕ → ℕ → MatchErrorKind → Type 0
IsEarliestError words xs s h at (Quit b x) =
    IsQuitNextTo (quit_bytes_for xs s.dfa) (earliest_search h at (length h)) b x × NoneEndsBefore xs (looks_by words s h) h at (length h) x
IsEarliestError words xs s h at (GaveUp x) = clears_of s.dfa ≡ None → ⊥
IsEarliestError words xs s h at NoMemory = ⊤
IsEarliestError words xs s h at (HaystackTooLong n) = ⊥
IsEarliestError words xs s h at (UnsupportedAnchored mode) = ⊥
IsEarliestError words xs s h at NotAPair = ⊥
