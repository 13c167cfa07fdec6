-- Matches from an offset on, with their groups, as many as there is room for.
use Rattle.std.specs.Prelude.{◌≡◌, ◌⊎◌, ◌++◌, ◌∷◌, ◌+◌, ◌==◌, ◌&&◌, ℕ, zero, suc, All, Bool, false, List, [], Option, Some, None, if◌then◌else◌, length, map, replicate, take}
use Rattle.regex_hir.specs.Re.{Re}
use Rattle.regex_hir.specs.Meaning.{alt_all}
use Rattle.regex_hir.specs.Find.{Match}
use Rattle.regex_syntax.specs.declared.Config.{Config}
use Rattle.pattern_search.specs.Searches.{found_from, span_of_match, IsOfFirstPattern}
use Rattle.pattern_search.specs.Texts.{AreReadAs}
use Rattle.meta_regex.specs.declared.found_match.FoundMatch.{FoundMatch}
use Rattle.meta_regex.specs.Regexes.{as_found, overlaid, span_of_row}
use Rattle.group_finder.specs.Slots.{no_offset}
use Rattle.captures.specs.Captures.{rows_of}

-- Where the search for the match after one with this span begins: at its end, or one byte after that if it is empty.
abbrev pub after_span : ℕ → ℕ → ℕ
after_span start end = if start == end then end + 1 else end

-- Where the search for the match after this one begins.
abbrev pub after_match : Match → ℕ
after_match m = after_span m.start m.trace.end

-- The given match and those after it, at most n in all. Each is what the matcher finds from where the search after the one before it begins.
unfoldable pub matches_after : (ℕ → Option Match) → ℕ → Option Match → List Match
matches_after find zero m = []
matches_after find (suc n) None = []
matches_after find (suc n) (Some m) = m ∷ matches_after find n (find (after_match m))

-- The first n matches from an offset on.
abbrev pub next_matches : Config → List Re → List ℕ → ℕ → ℕ → List Match
next_matches config res h at n =
    matches_after (found_from config.utf8 (alt_all res) h) n (found_from config.utf8 (alt_all res) h at)

-- Where the search after these matches begins, which is the given offset if there is none.
unfoldable pub after_all : ℕ → List Match → ℕ
after_all at [] = at
after_all at (m ∷ ms) = after_all (after_match m) ms

-- The matcher finds at least n matches from an offset on. The first n of them are in the rows. Each is a match of the first pattern that
-- matches from its start. The rows after them are unchanged. The search for the next one begins at this offset.
pub record AreNext (config : Config) (texts : List (List ℕ)) (h : List ℕ) (at n next : ℕ) (old new : List FoundMatch) : Type 0 where
  pub count : (res : List Re) → AreReadAs config texts res → n ≡ length (next_matches config res h at n)
  pub rows : (res : List Re) → AreReadAs config texts res →
      map span_of_row new ≡ overlaid (map span_of_match (next_matches config res h at n)) (map span_of_row old)
  pub patterns : (res : List Re) → AreReadAs config texts res → All (λ r. IsOfFirstPattern res h (as_found r)) (take n new)
  pub goes_on : (res : List Re) → AreReadAs config texts res → next ≡ after_all at (next_matches config res h at n)

-- There are as many matches as there is room for, or the matcher finds none from this offset on.
abbrev pub IsFullOrLast : Config → List (List ℕ) → List ℕ → ℕ → ℕ → ℕ → Type 0
IsFullOrLast config texts h room n next =
    (n ≡ room) ⊎ ((res : List Re) → AreReadAs config texts res → found_from config.utf8 (alt_all res) h next ≡ None)

-- The slots hold those of the first n matches from an offset on, as far as there is room. The slots after them are unchanged.
abbrev pub AreNextCaptured : Config → List (List ℕ) → List ℕ → ℕ → ℕ → ℕ → List ℕ → List ℕ → Type 0
AreNextCaptured config texts h at width n old new = (res : List Re) → AreReadAs config texts res →
    new ≡ overlaid (rows_of width (next_matches config res h at n)) old

-- The slots after them are unchanged, or the next row holds no offset, as far as there is room for it.
abbrev pub AreNextBegun : Config → List (List ℕ) → List ℕ → ℕ → ℕ → ℕ → List ℕ → List ℕ → Type 0
AreNextBegun config texts h at width n old new = (res : List Re) → AreReadAs config texts res →
    (new ≡ overlaid (rows_of width (next_matches config res h at n)) old)
    ⊎ (new ≡ overlaid (rows_of width (next_matches config res h at n) ++ replicate width no_offset) old)

-- ---- the list of all matches

-- This match is empty and right at the given end, if there is one.
abbrev pub is_adjacent : Option ℕ → Match → Bool
is_adjacent None m = false
is_adjacent (Some end) m = (m.start == end) && (m.trace.end == end)

-- The matches without each empty one that is right at the end of the one before it.
unfoldable pub without_adjacent : Option ℕ → List Match → List Match
without_adjacent last [] = []
without_adjacent last (m ∷ ms) =
    if is_adjacent last m then without_adjacent (Some m.trace.end) ms else m ∷ without_adjacent (Some m.trace.end) ms
