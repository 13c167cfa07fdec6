-- Which steps of a search are known before it begins, and what calls preserve of that.
use Rattle.std.specs.Prelude.{◌≡◌, ◌≢◌, ◌⊎◌, ℕ, zero, suc, ◌+◌, ◌-◌, ◌<◌, ◌≤◌, Bool, min, List, [], ◌∷◌, Option, Some, None, if◌then◌else◌}
use Rattle.std.specs.Prelude.{nat_le, All, slice_index_or}
use Rattle.determinize_core.specs.States.{StateValue}
use Rattle.determinize_core.specs.Starts.{StartValue}
use Rattle.determinize_core.specs.Steps.{unit_before}
use Rattle.search_types.specs.declared.anchored.Anchored.{Anchored}
use Rattle.search_types.specs.Inputs.{Search}
use Rattle.search_types.specs.Modes.{is_anchored}
use Rattle.search_types.specs.Places.{counts}
use Rattle.lazy_dfa.specs.Caches.{CacheValue, IsRow, Names, greatest}
use Rattle.lazy_dfa.specs.Dfas.{Dfa, reader, start_in, IsUnit}
use Rattle.lazy_dfa.specs.Ids.{unknown_id, is_sentinel}
use Rattle.lazy_dfa.specs.Scans.{next_offset, scan}
use Rattle.lazy_dfa.specs.ScanLaws.{splits, scan_len_of, unit_of}
use Rattle.lazy_dfa.specs.Readers.{Reader}
use Rattle.lazy_dfa.specs.HalfSearchLaws.{begins_at}
use Rattle.lazy_dfa.specs.StartCalls.{mode_of, rejected_start, start_noted}
use Rattle.lazy_dfa.specs.Steps.{noted, IsKnown}

-- ---- paths

-- where a known step leads from an ID; a sentinel leads to itself
abbrev pub led : Dfa → CacheValue → ℕ → Option ℕ → ℕ
led d v id u = if is_sentinel id then id else noted d v id u

-- the ID after k units, from an ID at offset i
abbrev pub id_after : Dfa → CacheValue → List ℕ → ℕ → ℕ → ℕ → ℕ
id_after d v h i id zero = id
id_after d v h i id (suc k) = led d v (id_after d v h i id k) (unit_of (reader d) h i k)

-- the ID is known, and so is each step of its path through the first n units
pub record IsLinkedOver (d : Dfa) (v : CacheValue) (h : List ℕ) (i id n : ℕ) : Type 0 where
  pub start : id ≢ unknown_id
  pub steps : (k : ℕ) → k < n → IsKnown d v (id_after d v h i id k) (unit_of (reader d) h i k)

-- what a scan from offset i passes to its start call
abbrev pub start_from : Reader → Anchored → List ℕ → ℕ → StartValue
start_from r mode h i = record { look_behind = unit_before r.automaton.reverse h i; anchored = mode }

-- The path of a scan from offset i over n bytes is known: its start, and each step by the units that it reads. A scan
-- has no path if its start is rejected, or if there is no such pattern; then the condition holds.
abbrev pub IsLinkedScan : Dfa → CacheValue → Anchored → Bool → List ℕ → ℕ → ℕ → Type 0
IsLinkedScan d v mode earliest h n i = (q : ℕ) → rejected_start d (start_from (reader d) mode h i) ≡ None →
    start_in d (mode_of mode) ≡ Some q →
    IsLinkedOver d v h i (start_noted d v (start_from (reader d) mode h i)) (scan_len_of (reader d) mode earliest h n i)

-- ---- the scans of a search

-- the scan over n bytes from offset i and those that follow it, each by the number of its bytes and the offset where it
-- begins
abbrev pub scans_on : Reader → Anchored → Bool → List ℕ → ℕ → ℕ → List (ℕ × ℕ)
scans_on r mode earliest h zero i = (zero, i) ∷ []
scans_on r mode earliest h (suc n) i = (suc n, i) ∷
    (if splits (counts r.between_characters h) (scan r mode earliest h (suc n) i) then scans_on r mode earliest h n (next_offset r i)
    else [])

-- the scans of a half search
abbrev pub scans_of : Reader → Search → List (ℕ × ℕ)
scans_of r q =
    if nat_le q.start q.end
    then (if is_anchored q.anchored
    then (q.end - q.start, begins_at r q) ∷ []
    else scans_on r q.anchored q.earliest q.haystack (q.end - q.start) (begins_at r q))
    else []

-- the path of each of these scans is known
abbrev pub AreLinked : Dfa → CacheValue → Search → List (ℕ × ℕ) → Type 0
AreLinked d v q passes = All (λ p. IsLinkedScan d v q.anchored q.earliest q.haystack p.0 p.1) passes

-- the path of a half search is known
abbrev pub IsLinked : Dfa → CacheValue → Search → Type 0
IsLinked d v q = AreLinked d v q (scans_of (reader d) q)

-- ---- what calls preserve

-- Nothing was cleared. Each ID names what it named, and all known steps and starts are still known.
pub record CacheGrows (d : Dfa) (old new : CacheValue) : Type 0 where
  pub names : (id : ℕ) (s : StateValue) → Names old id s → Names new id s
  pub known : (id : ℕ) (u : Option ℕ) → IsRow old id → IsUnit u → noted d old id u ≢ unknown_id → noted d new id u ≡ noted d old id u
  pub starts : (i : ℕ) → slice_index_or old.starts i 0 ≢ unknown_id → slice_index_or new.starts i 0 ≡ slice_index_or old.starts i 0
  pub clears : new.clears ≡ old.clears

-- the cache was cleared, once or more
abbrev pub HasCleared : CacheValue → CacheValue → Type 0
HasCleared old new = min (old.clears + 1) greatest ≤ new.clears

abbrev pub GrowsOrClears : Dfa → CacheValue → CacheValue → Type 0
GrowsOrClears d old new = CacheGrows d old new ⊎ HasCleared old new

-- nothing changed but the progress
abbrev pub IsMoved : CacheValue → CacheValue → Type 0
IsMoved old new = new ≡ record old { searched = new.searched; progress = new.progress }
