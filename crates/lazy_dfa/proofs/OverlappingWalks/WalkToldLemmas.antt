-- The progress of a call of an overlapping search, unit by unit, whether the cache was cleared during the call or not.
use Rattle.std.proofs.Common.{◌≡◌, ◌⊎◌, inl, inr, ℕ, suc, ◌+◌, ◌<◌, ◌≤◌, Bool, true, false, Some, None, Result, Ok, Err, sym, ap, ◌∙◌}
use Rattle.std.proofs.Common.{subst, arith}
use Rattle.std.specs.Prelude.{min, IfErr, ⊤}
use Rattle.nfa_core.specs.Ways.{offset_of}
use Rattle.search_types.specs.Inputs.{Search}
use Rattle.search_types.specs.declared.match_error.MatchErrorKind.{MatchErrorKind}
use Rattle.lazy_dfa.specs.Caches.{CacheValue, greatest, distance, progress_len, moved_to}
use Rattle.lazy_dfa.specs.Dfas.{Dfa}
use Rattle.lazy_dfa.specs.LeftProgress.{progress_reached, progress_finished}
use Rattle.lazy_dfa.specs.AnewProgress.{progress_anew}
use Rattle.lazy_dfa.specs.declared.overlapping.overlapping_state.OverlappingPosition.{OverlappingPosition}
use Rattle.lazy_dfa.specs.Readers.{Reader}
use Rattle.lazy_dfa.specs.SearchAnswers.{ProgressValue, progress_of, scan_distance}
use Rattle.lazy_dfa.specs.ScanOffsets.{left_at, IsWithinSpan, gave_up_at, finished}
use Rattle.lazy_dfa.specs.ScanSteps.{ReportsTheSame}
use Rattle.lazy_dfa.specs.OverlappingAnswers.{index_there, overlapping_running, overlapping_done, overlapping_progress, units_at}
use Rattle.lazy_dfa.specs.OverlappingAnswers.{progress_by_reading, LeavesCall, IsCallReported}
use Rattle.lazy_dfa.specs.OverlappingAnswers.{IsCallReportedSince}
use Rattle.lazy_dfa.specs.OverlappingTurns.{unit_progress, ReportsUnit}
use Rattle.lazy_dfa.proofs.CacheChanges.LinkedLemmas.{not_cleared}
use Rattle.lazy_dfa.proofs.OverlappingWalks.WalkPlaceLemmas.{comes_far}
use Rattle.lazy_dfa.proofs.Courses.WholePassLemmas.{min_twice}
use Rattle.nfa_core.proofs.ForCallers.{place_zero}

-- ---- one unit

-- what is reported by the step of a unit, by what is reported before and after it
module _ (d : Dfa) (q : Search) (at place : ℕ) (there : place ≡ gave_up_at d.nfa.automaton.reverse q at) (v0 : CacheValue) where
  abbrev index : ℕ
  index = gave_up_at d.nfa.automaton.reverse q at

  pub unit_stepped : (v1 v2 : CacheValue) → v1 ≡ record v0 { progress = moved_to place v0.progress } → ReportsTheSame v1 v2 →
      ReportsUnit d false q at v0 v2
  unit_stepped v1 v2 moves reports = by reports
    where
      told_is : progress_of v1 ≡ progress_reached index (progress_of v0)
      told_is = ap progress_of moves ∙ ap (λ (x : ℕ). progress_reached x (progress_of v0)) there

      clears_is : v1.clears ≡ v0.clears
      clears_is = ap (λ (v : CacheValue). v.clears) moves

      by : ReportsTheSame v1 v2 → ReportsUnit d false q at v0 v2
      by (inl e) = inl (e.0 ∙ told_is, e.1 ∙ clears_is)
      by (inr c) = inr (
        subst (λ (n : ℕ). min (n + 1) greatest ≤ v2.clears) clears_is c.0,
        c.1 ∙ ap progress_anew told_is,
      )

  -- the search ends at this unit
  pub unit_finished : (v2 v3 : CacheValue) → v3 ≡ finished place v2 → ReportsUnit d false q at v0 v2 → ReportsUnit d true q at v0 v3
  unit_finished v2 v3 ends reports = by reports
    where
      told_is : progress_of v3 ≡ progress_finished index (progress_of v2)
      told_is = ap progress_of ends ∙ ap (λ (x : ℕ). progress_finished x (progress_of v2)) there

      clears_is : v3.clears ≡ v2.clears
      clears_is = ap (λ (v : CacheValue). v.clears) ends

      by : ReportsUnit d false q at v0 v2 → ReportsUnit d true q at v0 v3
      by (inl e) = inl (told_is ∙ ap (progress_finished index) e.0, clears_is ∙ e.1)
      by (inr c) = inr (
        subst (λ (n : ℕ). min (v0.clears + 1) greatest ≤ n) (sym clears_is) c.0,
        told_is ∙ ap (progress_finished index) c.1,
      )

-- ---- the running search

-- before this many units of a call: a search that has run since the call began, or since the cache was cleared
pub data IsWalking (is_reverse : Bool) (q : Search) (at before units : ℕ) (same clr : Type 0) (t : ProgressValue) : Type 0 where
  since_call : same → (b : ℕ) → b ≤ units → t ≡ overlapping_running is_reverse q at before 0 b →
      IsWalking is_reverse q at before units same clr t
  since_clear : clr → (m b : ℕ) → m ≤ b → b ≤ units → t ≡ overlapping_running is_reverse q at 0 m b →
      IsWalking is_reverse q at before units same clr t

-- what is reported after a unit, depending on whether it clears the cache
abbrev pub UnitBy : Type 0 → Type 0 → ℕ → ProgressValue → ProgressValue → Bool → Type 0
UnitBy same clr index t new finishes = ((new ≡ unit_progress finishes false index t) × same) ⊎ (clr ×
    (new ≡ unit_progress finishes true index t))

module _ (is_reverse : Bool) (q : Search) (at before k : ℕ) (was now whole clr : Type 0) (join : was → now → whole) (t new : ProgressValue)
    (under : IsWalking is_reverse q at before k was clr t) where
  abbrev here : ℕ
  here = index_there is_reverse q at k

  -- what is reported at that point
  abbrev IsThere : Bool → Type 0
  IsThere over = ((new ≡ overlapping_progress over is_reverse q at before 0 k) × whole) ⊎
      (clr × ((m : ℕ) × (m ≤ k) × (new ≡ overlapping_progress over is_reverse q at 0 m k)))

  pub unit_walked : (over : Bool) → UnitBy now clr here t new over → IsThere over
  unit_walked over turn = by under turn
    where
      by : IsWalking is_reverse q at before k was clr t → UnitBy now clr here t new over → IsThere over
      by (since_call w b l e) (inl f) = inl (f.0 ∙ ap (unit_progress over false here) e, join w f.1)
      by (since_call w b l e) (inr g) = inr (g.0, (k, omega arith, g.1 ∙ ap (unit_progress over true here) e))
      by (since_clear c m b l n e) (inl f) = inr (c, (m, omega (arith, l, n), f.0 ∙ ap (unit_progress over false here) e))
      by (since_clear c m b l n e) (inr g) = inr (g.0, (k, omega arith, g.1 ∙ ap (unit_progress over true here) e))

  pub unit_walks : UnitBy now clr here t new false → IsWalking is_reverse q at before (suc k) whole clr new
  unit_walks turn = by (unit_walked false turn)
    where
      by : IsThere false → IsWalking is_reverse q at before (suc k) whole clr new
      by (inl e) = since_call e.1 k (omega arith) e.0
      by (inr c) = since_clear c.0 c.1.0 k c.1.1 (omega arith) c.1.2

-- the search still runs if another fact shows that the cache was cleared
pub walking_by : (is_reverse : Bool) (q : Search) (at before units : ℕ) (w c e : Type 0) (t : ProgressValue) → (c → e) →
    IsWalking is_reverse q at before units w c t → IsWalking is_reverse q at before units w e t
walking_by is_reverse q at before units w c e t f (since_call x b l is) = since_call x b l is
walking_by is_reverse q at before units w c e t f (since_clear x m b l n is) = since_clear (f x) m b l n is

-- the search still runs before a later unit
pub walking_later : (is_reverse : Bool) (q : Search) (at before units more : ℕ) (w c : Type 0) (t : ProgressValue) → units ≤ more →
    IsWalking is_reverse q at before units w c t → IsWalking is_reverse q at before more w c t
walking_later is_reverse q at before units more w c t f (since_call x b l is) = since_call x b (omega (arith, l, f)) is
walking_later is_reverse q at before units more w c t f (since_clear x m b l n is) = since_clear x m b l (omega (arith, n, f)) is

-- a call that has just begun
pub walking_first : (is_reverse : Bool) (q : Search) (at before : ℕ) (w c : Type 0) (t : ProgressValue) → w →
    t ≡ record { searched = before; progress = Some (record { start = gave_up_at is_reverse q at; at = gave_up_at is_reverse q at }) } →
    IsWalking is_reverse q at before 0 w c t
walking_first is_reverse q at before w c t x e = since_call x 0 (omega arith)
    (e ∙ ap (λ (i : ℕ). record {
      searched = before;
      progress = Some (record { start = gave_up_at is_reverse q i; at = gave_up_at is_reverse q i });
    }) (sym (place_zero is_reverse at)))

abbrev so_many : ℕ → ProgressValue
so_many n = record { searched = n; progress = None }

-- a call that ends with this unit has reported all that it has to report
pub walk_is_told : (r : Reader) (q : Search) (at p k : ℕ) (t : ProgressValue) → IsWithinSpan q at → IsWithinSpan q p →
    p ≡ offset_of r.automaton.reverse at k → left_at r.automaton.reverse q at ≡ k + left_at r.automaton.reverse q p →
    units_at r q at ≡ k + 1 →
    overlapping_done r.automaton.reverse q at (min (t.searched + progress_len t.progress) greatest) 0 k ≡ progress_by_reading r q at t
walk_is_told r q at p k t start within place left units =
    ap so_many (ap (λ (n : ℕ). min (min (t.searched + progress_len t.progress) greatest + n) greatest) far
    ∙ (min_twice (t.searched + progress_len t.progress) (scan_distance r.automaton.reverse (left_at r.automaton.reverse q at) (k + 1))
    greatest
    ∙ ap (λ (u : ℕ). min (t.searched + progress_len t.progress + scan_distance r.automaton.reverse (left_at r.automaton.reverse q at) u)
    greatest) (sym units)))
  where
    far : distance (index_there r.automaton.reverse q at 0) (index_there r.automaton.reverse q at k) ≡ scan_distance r.automaton.reverse
        (left_at r.automaton.reverse q at) (k + 1)
    far =
        ap (λ (i : ℕ). distance (gave_up_at r.automaton.reverse q i) (index_there r.automaton.reverse q at k))
        (place_zero r.automaton.reverse at)
        ∙ (ap (λ (i : ℕ). distance (gave_up_at r.automaton.reverse q at) (gave_up_at r.automaton.reverse q i)) (sym place)
        ∙ comes_far r.automaton.reverse q at p k start within left)

-- ---- clauses

module _ (d : Dfa) (q : Search) (w : OverlappingPosition) (old new : CacheValue) where
  pub call_is_left : (result : Result ⊤ MatchErrorKind) → IsCallReported d q w result old new →
      IfErr result (λ e. new.clears ≡ old.clears → old.clears < greatest → LeavesCall d q w e (progress_of old) new)
  call_is_left (Ok u) reported = tt
  call_is_left (Err e) (inl l) = λ same less. l.0
  call_is_left (Err e) (inr c) = λ same less. absurd (not_cleared old new c.0 same less)

  pub call_is_told_since : (result : Result ⊤ MatchErrorKind) → IsCallReported d q w result old new → (new.clears ≡ old.clears → ⊥) →
      IsCallReportedSince d q w result new
  call_is_told_since (Ok u) (inl same) other = absurd (other same.1)
  call_is_told_since (Ok u) (inr c) other = c.1
  call_is_told_since (Err e) (inl same) other = absurd (other same.1)
  call_is_told_since (Err e) (inr c) other = c.1
