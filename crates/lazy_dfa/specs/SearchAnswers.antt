-- The results of half searches over a cache, and the progress that they report.
use Rattle.std.specs.Prelude.{◌≡◌, ◌⊎◌, ℕ, suc, ◌+◌, ◌-◌, ◌<◌, ◌≤◌, ◌==◌, ◌&&◌, Bool, true, false, min, List, [], ◌∷◌, length, Option, Some}
use Rattle.std.specs.Prelude.{None, Result, Ok, Err, IfOk, if◌then◌else◌, nat_lt}
use Rattle.std.specs.List.{list_any}
use Rattle.search_core.specs.Text.{byte_at}
use Rattle.look_core.specs.declared.look.Look.{Look}
use Rattle.search_types.specs.declared.anchored.Anchored.{Anchored}
use Rattle.search_types.specs.declared.match_error.MatchErrorKind.{MatchErrorKind}
use Rattle.search_types.specs.declared.match_error.MatchErrorKind.TheVariants.{Quit, GaveUp, UnsupportedAnchored, NoMemory}
use Rattle.search_types.specs.declared.match_kind.MatchKind.TheVariants.{LeftmostFirst}
use Rattle.search_types.specs.Found.{HalfFound}
use Rattle.search_types.specs.Inputs.{Search}
use Rattle.nfa_core.specs.NfaValue.{is_capture}
use Rattle.nfa_core.specs.Ways.{offset_of}
use Rattle.lazy_dfa.specs.Caches.{CacheValue, greatest, progress_len, has_no_room}
use Rattle.lazy_dfa.specs.Courses.{state_after}
use Rattle.lazy_dfa.specs.declared.cache.progress.Progress.{Progress}
use Rattle.lazy_dfa.specs.Dfas.{Dfa, reader}
use Rattle.lazy_dfa.specs.Linked.{scans_of, start_from}
use Rattle.lazy_dfa.specs.Scans.{index_at, first_value, start_name}
use Rattle.lazy_dfa.specs.ScanLaws.{scan_len_of, HasNoQuit}
use Rattle.lazy_dfa.specs.Readers.{Reader, HalfAnswer, found, quit, unsupported, is_quit}
use Rattle.lazy_dfa.specs.HalfSearchLaws.{begins_at, IsFound, ReadsAlike, IsFirstFound}
use Rattle.lazy_dfa.specs.HalfSearches.{half_search}
use Rattle.lazy_dfa.specs.StartCalls.{rejected_start}

-- ---- results

-- the end of a match by its offset and its pattern
abbrev pub half_of : Option (ℕ × ℕ) → Option HalfFound
half_of None = None
half_of (Some e) = Some (record { pattern = e.1; offset = e.0 })

abbrev pub pair_of : Option HalfFound → Option (ℕ × ℕ)
pair_of None = None
pair_of (Some m) = Some (m.offset, m.pattern)

-- the result of code that stands for an answer of `half_search`
abbrev pub reported : HalfAnswer → Result (Option HalfFound) MatchErrorKind
reported (found o) = Ok (half_of o)
reported (quit b x) = Err (Quit b x)
reported (unsupported mode) = Err (UnsupportedAnchored mode)

-- The offset that a scan over n bytes from offset i reports if it gives up since it can't make the state after unit k.
-- It is the index of the byte that is unit k. For the last unit, it is the last offset of the span.
abbrev pub give_up_offset : Bool → ℕ → ℕ → ℕ → ℕ
give_up_offset is_reverse n i k = if nat_lt k n then index_at is_reverse (offset_of is_reverse i k) else offset_of is_reverse i k

-- where the running search is
abbrev pub running_at : Option Progress → Option ℕ
running_at None = None
running_at (Some p) = Some p.at

-- A scan over n bytes from offset i gave up at x. Its first state, or the state after a unit that it reads, has no
-- room, and no clear is allowed. Up to then nothing else made it fail, neither at its start nor in the units up to that
-- one. At a byte the search is still running, and is there.
pub data GivesUpIn (d : Dfa) (v : CacheValue) (mode : Anchored) (earliest : Bool) (h : List ℕ) (n i x : ℕ) : Type 0 where
  at_start : x ≡ i → has_no_room d v (first_value (reader d) mode h i) ≡ true →
      rejected_start d (start_from (reader d) mode h i) ≡ None → GivesUpIn d v mode earliest h n i x
  at_unit : (k : ℕ) → k < scan_len_of (reader d) mode earliest h n i → x ≡ give_up_offset d.nfa.automaton.reverse n i k →
      has_no_room d v (state_after (reader d) h i (first_value (reader d) mode h i) (suc k)) ≡ true →
      (k < n → running_at v.progress ≡ Some x) →
      rejected_start d (start_from (reader d) mode h i) ≡ None → HasNoQuit (reader d) h i (suc k) →
      GivesUpIn d v mode earliest h n i x

-- one of these scans gave up
abbrev pub GivesUpAmong : Dfa → CacheValue → Search → ℕ → List (ℕ × ℕ) → Type 0
GivesUpAmong d v q x [] = ⊥
GivesUpAmong d v q x (p ∷ ps) = GivesUpIn d v q.anchored q.earliest q.haystack p.0 p.1 x ⊎ GivesUpAmong d v q x ps

-- A half search returns the answer of `half_search`, whatever the cache holds. Otherwise an allocation failed, or the search
-- gave up, and the cache is as it was then.
abbrev pub Answers : Dfa → CacheValue → Search → Result (Option HalfFound) MatchErrorKind → Type 0
Answers d v q result = (result ≡ reported (half_search (reader d) q)) ⊎ (result ≡ Err NoMemory) ⊎
    ((x : ℕ) × (result ≡ Err (GaveUp x)) × GivesUpAmong d v q x (scans_of (reader d) q))

-- ---- progress

-- the progress that a cache keeps
pub record ProgressValue : Type 0 where
  pub searched : ℕ
  pub progress : Option Progress

abbrev pub progress_of : CacheValue → ProgressValue
progress_of v = record { searched = v.searched; progress = v.progress }

-- how far a scan over n bytes comes if it reads `units` units: the distance from its first byte to its last one
abbrev pub scan_distance : Bool → ℕ → ℕ → ℕ
scan_distance false n units = units - 1
scan_distance true n units = min (units - 1) (n - 1)

-- A scan ends the running search and adds its own length. A scan in reverse over no bytes reports nothing.
abbrev pub progress_by_scan : Reader → Anchored → Bool → List ℕ → ProgressValue → ℕ × ℕ → ProgressValue
progress_by_scan r mode earliest h t p =
    if r.automaton.reverse && p.0 == 0 then t else record {
      searched = min (t.searched + progress_len t.progress + scan_distance r.automaton.reverse p.0 (scan_len_of r mode earliest h p.0 p.1))
          greatest;
      progress = None;
    }

-- what a scan over n bytes reports at its end, after it reported where it begins
abbrev pub progress_past : Bool → ℕ → ProgressValue → ℕ → ProgressValue
progress_past is_reverse n t units =
    if is_reverse && n == 0 then t else record { searched = min (t.searched + scan_distance is_reverse n units) greatest; progress = None }

-- what these scans report
abbrev pub progress_by : Reader → Search → ProgressValue → List (ℕ × ℕ) → ProgressValue
progress_by r q t [] = t
progress_by r q t (p ∷ ps) = progress_by r q (progress_by_scan r q.anchored q.earliest q.haystack t p) ps

-- ---- work

-- the most states that these scans make: one for each start, and one for each unit
abbrev pub made_by : Reader → Search → List (ℕ × ℕ) → ℕ
made_by r q [] = 0
made_by r q (p ∷ ps) = suc (scan_len_of r q.anchored q.earliest q.haystack p.0 p.1) + made_by r q ps

-- ---- what is found, and in which part of the haystack

-- The end that a half search found, forward or in reverse, for every kind of match: no definition of a scan is needed for this.
-- `wanted`: of the ends of runs from the state in which it starts, with looks read by ASCII bytes, it is the nearest one if
-- the earliest end is asked for. Otherwise it is the first one under leftmost-first, and the last one if all matches are asked
-- for. If such an end doesn't count, the next offset at which an unanchored search begins decides. A search for a pattern that
-- doesn't exist finds nothing, and neither does one that was done before it began.
pub record FindsWanted (r : Reader) (q : Search) (o : Option (ℕ × ℕ)) : Type 0 where
  pub wanted : (name : ℕ) → q.start ≤ q.end → start_name r.automaton q.anchored ≡ Some name → IsFound r q name o
  pub no_pattern : start_name r.automaton q.anchored ≡ None → o ≡ None
  pub done : q.end < q.start → o ≡ None

-- What a forward half search found, and the offset after what it read: no definition of a scan is needed for this. There
-- is no quit byte from the byte before the span to that offset. Under leftmost-first it found the first end for each
-- reading of looks that agrees with the ASCII reading up to there, unless it was done before it began. A search that was
-- done before it began read nothing.
pub record IsFoundUpTo (r : Reader) (q : Search) (o : Option (ℕ × ℕ)) (end : ℕ) : Type 0 where
  pub within : end ≤ suc q.end
  pub done : q.end < q.start → (x : ℕ) → q.start ≤ x + 1 → x < end → ⊥
  pub past : (e : ℕ × ℕ) → o ≡ Some e → e.0 < end
  pub quiet : (x : ℕ) → q.start ≤ x + 1 → x < end → is_quit r.quits (byte_at q.haystack x) ≡ false
  pub first : (name : ℕ) (holds : Look → ℕ → Bool) → q.start ≤ q.end → r.kind ≡ LeftmostFirst → q.earliest ≡ false →
      list_any is_capture r.automaton.states ≡ false →
      start_name r.automaton q.anchored ≡ Some name → ReadsAlike r holds q.haystack q.start q.end (begins_at r q) (end - begins_at r q) →
      IsFirstFound r q holds name o

-- what a forward half search returned if it succeeded: the wanted end, and up to where it read
abbrev pub FindsUpTo : Reader → Search → Result (Option HalfFound) MatchErrorKind → Type 0
FindsUpTo r q result = IfOk result (λ f. FindsWanted r q (pair_of f) × ((end : ℕ) × IsFoundUpTo r q (pair_of f) end))

-- What a half search in reverse found, and the first of the offsets that it read. There is no quit byte from there to the
-- byte after the span. A search that was done before it began read nothing.
pub record IsFoundDownTo (r : Reader) (q : Search) (o : Option (ℕ × ℕ)) (begin : ℕ) : Type 0 where
  pub within : q.start ≤ begin + 1
  pub done : q.end < q.start → (x : ℕ) → begin ≤ x → x ≤ q.end → ⊥
  pub past : (e : ℕ × ℕ) → o ≡ Some e → begin ≤ e.0
  pub quiet : (x : ℕ) → begin ≤ x → x ≤ q.end → is_quit r.quits (byte_at q.haystack x) ≡ false

-- what a half search in reverse returned if it succeeded: the wanted end, and down to where it read
abbrev pub FindsDownTo : Reader → Search → Result (Option HalfFound) MatchErrorKind → Type 0
FindsDownTo r q result = IfOk result (λ f. FindsWanted r q (pair_of f) × ((begin : ℕ) × IsFoundDownTo r q (pair_of f) begin))

-- ---- reach

-- No byte from that offset on affects what is found: a search of any haystack that has the same bytes up to there finds
-- the same.
pub record IsReachOf (r : Reader) (q : Search) (o : Option (ℕ × ℕ)) (end : ℕ) : Type 0 where
  pub finds : IsFoundUpTo r q o end
  pub local : (g : List ℕ) → q.end ≤ length g → ((x : ℕ) → q.start ≤ x + 1 → x < end → byte_at g x ≡ byte_at q.haystack x) →
      half_search r (record q { haystack = g }) ≡ found o

abbrev pub HasReach : Reader → Search → Option (ℕ × ℕ) → Type 0
HasReach r q o = (end : ℕ) × IsReachOf r q o end

-- No byte before that offset affects it: a search in reverse of any haystack that has the same bytes down to there finds
-- the same.
pub record IsReachBack (r : Reader) (q : Search) (o : Option (ℕ × ℕ)) (begin : ℕ) : Type 0 where
  pub finds : IsFoundDownTo r q o begin
  pub local : (g : List ℕ) → q.end ≤ length g → ((x : ℕ) → begin ≤ x → x ≤ q.end → byte_at g x ≡ byte_at q.haystack x) →
      half_search r (record q { haystack = g }) ≡ found o

abbrev pub HasReachBack : Reader → Search → Option (ℕ × ℕ) → Type 0
HasReachBack r q o = (begin : ℕ) × IsReachBack r q o begin
