-- What the laws of overlapping searches are about: the ends of runs, offset by offset, in reading order.
use Rattle.std.specs.Prelude.{◌≡◌, ℕ, zero, suc, ◌-◌, ◌<◌, ◌≤◌, Bool, true, false, List, [], ◌∷◌, ◌++◌, length, Some, if◌then◌else◌}
use Rattle.std.specs.List.{filter}
use Rattle.std.specs.Bool.{nat_eq}
use Rattle.search_core.specs.ByteSets.{has}
use Rattle.search_types.specs.Inputs.{Search}
use Rattle.search_types.specs.Places.{counts}
use Rattle.nfa_core.specs.Nfa.{IsWellFormed}
use Rattle.nfa_core.specs.Places.{same_pair}
use Rattle.nfa_core.specs.Walks.{Has}
use Rattle.nfa_core.specs.Ways.{offset_of}
use Rattle.lazy_dfa.specs.Scans.{index_at, start_name}
use Rattle.lazy_dfa.specs.ScanLaws.{unit_of, HasNoQuit, is_past}
use Rattle.lazy_dfa.specs.Readers.{Reader}
use Rattle.lazy_dfa.specs.HalfSearchLaws.{begins_at, ends_of}

-- of these ends, those at one offset, if the offset counts
abbrev pub ends_at : (ℕ → Bool) → List (ℕ × ℕ) → ℕ → List (ℕ × ℕ)
ends_at counted ends j = if counted j then filter (λ x. nat_eq x.0 j) ends else []

-- The ends at n offsets from offset i on, forward or in reverse. They are listed offset by offset; at one offset they
-- keep their order.
abbrev pub ends_by_offset : Bool → (ℕ → Bool) → List (ℕ × ℕ) → ℕ → ℕ → List (ℕ × ℕ)
ends_by_offset reverse counted ends i zero = []
ends_by_offset reverse counted ends i (suc n) = ends_at counted ends i ++ ends_by_offset reverse counted ends (offset_of reverse i 1) n

-- the ends of the runs that start as the search does, at the first n offsets of its span
abbrev pub span_ends : Reader → Search → ℕ → ℕ → List (ℕ × ℕ)
span_ends r q name n =
    ends_by_offset r.automaton.reverse (counts r.between_characters q.haystack) (ends_of r q name 0) (begins_at r q) n

-- a search over a span of its haystack, by a well-formed automaton, that starts in this state
pub record IsBegun (r : Reader) (q : Search) (name : ℕ) : Type 0 where
  pub formed : IsWellFormed r.automaton
  pub begun : q.start ≤ q.end
  pub within : q.end ≤ length q.haystack
  pub start : start_name r.automaton q.anchored ≡ Some name
  pub inside : name < length r.automaton.states

-- no end is beyond one that is reported later, forward or in reverse
abbrev pub IsInReadingOrder : Bool → List (ℕ × ℕ) → Type 0
IsInReadingOrder reverse ends =
    (before behind : List (ℕ × ℕ)) (x y : ℕ × ℕ) → ends ≡ before ++ (x ∷ behind) → Has same_pair y behind → is_past reverse x.0 y.0 ≡ false

-- unit m of a search is the quit byte b, with the index x, and no unit before it is a quit byte
pub record IsQuitUnit (r : Reader) (q : Search) (m b x : ℕ) : Type 0 where
  pub within : m ≤ q.end - q.start
  pub unit : unit_of r q.haystack (begins_at r q) m ≡ Some b
  pub quits : has r.quits b ≡ true
  pub index : x ≡ index_at r.automaton.reverse (offset_of r.automaton.reverse (begins_at r q) m)
  pub quiet : HasNoQuit r q.haystack (begins_at r q) m
