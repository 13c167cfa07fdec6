-- The loop in which an overlapping search reads on. At each of its points, what is left is what was left when the call began. The units
-- read so far are those that the call had to read, except those that it has still to read.
use Rattle.std.proofs.Common.{◌≡◌, ◌⊎◌, inl, inr, ℕ, zero, suc, ◌+◌, ◌-◌, ◌*◌, ◌<◌, ◌≤◌, ◌&&◌, not, min, Bool, true, false, List, length}
use Rattle.std.proofs.Common.{drop, Option, Some, None, Ok, Err, IsSome, refl, sym, ap, ◌∙◌, subst, ⊎_elim, arith}
use Rattle.std.specs.Option.{option_or}
use Rattle.std.proofs.Math.Nat.{mul-le-mul_right}
use Rattle.nfa_core.specs.Ways.{offset_of}
use Rattle.nfa_core.specs.Places.{first}
use Rattle.determinize_core.specs.States.{StateValue}
use Rattle.determinize_core.specs.Steps.{unit_at}
use Rattle.determinize_core.specs.Walked.{end_at}
use Rattle.search_types.specs.declared.match_error.MatchErrorKind.{MatchErrorKind}
use Rattle.search_types.specs.declared.match_error.MatchErrorKind.TheVariants.{Quit, GaveUp, HaystackTooLong, UnsupportedAnchored, NotAPair}
use Rattle.search_types.specs.declared.match_error.MatchErrorKind.TheVariants.{NoMemory}
use Rattle.search_types.specs.Inputs.{Search}
use Rattle.search_types.specs.Places.{counts}
use Rattle.lazy_dfa.specs.Caches.{CacheValue, IsCacheOf, IsRow, HeldAt, Names, names_dead, names_held, greatest, progress_len, has_no_room}
use Rattle.lazy_dfa.specs.Courses.{state_after}
use Rattle.lazy_dfa.specs.declared.search.position.Position.{Position}
use Rattle.lazy_dfa.specs.declared.overlapping.overlapping_state.OverlappingPosition.TheVariants.{Ended, Stopped}
use Rattle.lazy_dfa.specs.Dfas.{Dfa, IsDfa, reader}
use Rattle.lazy_dfa.specs.Linked.{CacheGrows, HasCleared, GrowsOrClears, IsMoved}
use Rattle.lazy_dfa.specs.Scans.{is_dead, is_empty, next_value, next_offset}
use Rattle.lazy_dfa.specs.Points.{Point, point, began, Follows, GoesTo}
use Rattle.lazy_dfa.specs.ScanLaws.{HasNoQuit}
use Rattle.lazy_dfa.specs.Readers.{is_quit}
use Rattle.lazy_dfa.specs.HalfSearchLaws.{begins_at}
use Rattle.lazy_dfa.specs.SearchAnswers.{half_of, pair_of, progress_of, scan_distance}
use Rattle.lazy_dfa.specs.ScanOffsets.{last_offset, came, left_at, IsWithinSpan, gave_up_at, GoesBetween}
use Rattle.lazy_dfa.specs.Steps.{most_inserts}
use Rattle.lazy_dfa.specs.ScanSteps.{Leaves}
use Rattle.lazy_dfa.specs.Overlapping.{Rest, OverlappingValue, nothing_left, onto, others, listed, rest_from, rest_of, value_past}
use Rattle.lazy_dfa.specs.Overlapping.{rest_past}
use Rattle.lazy_dfa.specs.Overlapping.{StopsAt}
use Rattle.lazy_dfa.specs.Overlapping.{CanContinue}
use Rattle.lazy_dfa.specs.OverlappingAnswers.{without_id, stop_after}
use Rattle.lazy_dfa.specs.OverlappingAnswers.{units_met, result_left, value_before, rest_at, units_at, progress_by_reading, GivesUpFrom}
use Rattle.lazy_dfa.specs.OverlappingAnswers.{ReadsOn}
use Rattle.lazy_dfa.specs.Changes.{Changes, unchanged, IsMadeAt}
use Rattle.lazy_dfa.specs.Courses.{AreRead}
use Rattle.lazy_dfa.proofs.CacheChanges.ChangesLemmas.{changes_into, changes_on, changes_moved, made_within, made_behind}
use Rattle.lazy_dfa.proofs.Courses.CourseLemmas.{read_there}
use Rattle.lazy_dfa.specs.OverlappingAnswers.{StartsQuietly, HasReadQuietly, index_there, overlapping_done, overlapping_progress}
use Rattle.lazy_dfa.specs.OverlappingAnswers.{ends_there}
use Rattle.lazy_dfa.specs.OverlappingAnswers.{FailsThere}
use Rattle.lazy_dfa.specs.LeftProgress.{is_quit_error}
use Rattle.lazy_dfa.specs.OverlappingTurns.{reports_end, ReportsNone, stopped, ReportsUnit, FailsUnit, StopsWith, ReadsInto}
use Rattle.lazy_dfa.proofs.OverlappingWalks.WalkToldLemmas.{IsWalking, UnitBy, unit_walked, unit_walks, walking_by, walking_later}
use Rattle.lazy_dfa.proofs.OverlappingWalks.WalkToldLemmas.{walking_first, walk_is_told}
use Rattle.lazy_dfa.proofs.Courses.CourseLemmas.{not_dead}
use Rattle.lazy_dfa.proofs.CacheChanges.LinkedLemmas.{grows_trans, cleared_grows, grows_or_clears_trans, grows_moved}
use Rattle.lazy_dfa.proofs.Courses.PassLoopLemmas.{next_within}
use Rattle.lazy_dfa.proofs.Courses.RunLemmas.{row_holds, half_back}
use Rattle.lazy_dfa.proofs.Courses.SpanTurnLemmas.{held_moved, finished_moves, told_there}
use Rattle.lazy_dfa.proofs.OverlappingWalks.WalkQuitLemmas.{no_quit_yet, no_quit_once, no_quit_read, no_quit_on, came_steps}
use Rattle.lazy_dfa.proofs.OverlappingWalks.WalkPlaceLemmas.{place_came, left_next, comes_far, past_next, past_one, value_later, rest_later}
use Rattle.lazy_dfa.proofs.OverlappingWalks.WalkPlaceLemmas.{units_later}
use Rattle.lazy_dfa.proofs.OverlappingWalks.WalkRestLemmas.{some_listed, none_left, dead_left, step_left, quit_left, pass_left, pass_units}
use Rattle.lazy_dfa.proofs.OverlappingWalks.WalkRestLemmas.{tell_units}
use Rattle.lazy_dfa.proofs.OverlappingWalks.WalkRestLemmas.{some_units, stops_first}
use Rattle.lazy_dfa.proofs.Courses.WholePassLemmas.{min_twice}
use Rattle.nfa_core.proofs.ForCallers.{place_zero}
use Rattle.lazy_dfa.proofs.HalfSearches.FoundLemmas.{place_add}
use Rattle.lazy_dfa.proofs.Courses.PointLemmas.{sum_of}
use Rattle.lazy_dfa.proofs.OverlappingWalks.WalkLeftLemmas.{left_last, dead_units}

-- ---- points of the loop

-- nothing was cleared since a call began, and the running search began at this index
pub record KeepsOn (d : Dfa) (old new : CacheValue) (index : ℕ) : Type 0 where
  pub grows : CacheGrows d old new
  pub searched : new.searched ≡ min (old.searched + progress_len old.progress) greatest
  pub began : began new.progress ≡ Some index

-- a call that began at one point, before it reported that to its cache, is now at another point
pub record StandsOn (d : Dfa) (q : Search) (from p : Point) : Type 0 where
  pub steps : ℕ
  pub place : p.at ≡ offset_of d.nfa.automaton.reverse from.at steps
  pub left : left_at d.nfa.automaton.reverse q from.at ≡ steps + left_at d.nfa.automaton.reverse q p.at
  pub state : HeldAt p.cache p.id (value_before (reader d) q p.at)
  pub rest : rest_at (reader d) q from.at ≡ rest_at (reader d) q p.at
  pub units : units_at (reader d) q from.at ≡ steps + units_at (reader d) q p.at
  pub kept : KeepsOn d from.cache p.cache (gave_up_at d.nfa.automaton.reverse q from.at) ⊎ HasCleared from.cache p.cache
  pub running : IsSome p.cache.progress
  pub determinized : p.determinized ≤ from.determinized + steps
  pub inserted : p.inserted ≤ from.inserted + steps * most_inserts d
  pub quits : HasNoQuit (reader d) q.haystack from.at steps
  pub read : AreRead (reader d) q.haystack from.at (value_before (reader d) q from.at) steps
  pub changes : Changes d (IsMadeAt (reader d) q.haystack from.at (value_before (reader d) q from.at) steps) from.cache p.cache steps
  pub reported : IsWalking d.nfa.automaton.reverse q from.at (min (from.cache.searched + progress_len from.cache.progress) greatest) steps
      (p.cache.clears ≡ from.cache.clears) (HasCleared from.cache p.cache) (progress_of p.cache)

-- when a search begins, nothing else in the cache changes
pub started_moves : (v w : CacheValue) (index : ℕ) → w ≡ record v {
  searched = min (v.searched + progress_len v.progress) greatest;
  progress = Some (record { start = index; at = index });
} → IsMoved v w
started_moves v w index e = subst (λ (c : CacheValue). IsMoved v c) (sym e) refl

-- a call begins
pub begins_on : (d : Dfa) (q : Search) (v w : CacheValue) (m n at id index : ℕ) (best best2 : Option (ℕ × ℕ)) →
    w ≡ record v {
      searched = min (v.searched + progress_len v.progress) greatest;
      progress = Some (record { start = index; at = index });
    } →
    index ≡ gave_up_at d.nfa.automaton.reverse q at → HeldAt v id (value_before (reader d) q at) →
    StandsOn d q (point v m n at id best) (point w m n at id best2)
begins_on d q v w m n at id index best best2 e there held = record {
  steps = 0;
  place = sym (place_zero d.nfa.automaton.reverse at);
  left = omega arith;
  state = held_moved v w id (value_before (reader d) q at) moved held;
  rest = refl;
  units = none_more (units_at (reader d) q at);
  kept = inl (record {
    grows = grows_moved d v w moved;
    searched = ap (λ (c : CacheValue). c.searched) e;
    began = ap (λ (c : CacheValue). began c.progress) e ∙ ap Some there;
  });
  running = subst (λ (c : CacheValue). IsSome c.progress) (sym e) refl;
  determinized = omega arith;
  inserted = omega arith;
  quits = no_quit_yet (reader d) q.haystack at;
  read = λ k lt. absurd (omega (arith, lt));
  changes = changes_moved d (IsMadeAt (reader d) q.haystack at (value_before (reader d) q at) 0) v v w 0 moved (unchanged v 0 refl);
  reported = walking_first d.nfa.automaton.reverse q at (min (v.searched + progress_len v.progress) greatest) (w.clears ≡ v.clears)
      (HasCleared v w) (progress_of w) (ap (λ (c : CacheValue). c.clears) e)
      (ap progress_of e ∙ ap (λ (i : ℕ). record {
        searched = min (v.searched + progress_len v.progress) greatest;
        progress = Some (record { start = i; at = i });
      }) there);
}
  where
    moved : IsMoved v w
    moved = started_moves v w index e

    none_more : (n : ℕ) → n ≡ 0 + n
    none_more n = omega arith

module _ (d : Dfa) (q : Search) (made : IsDfa d) (from p : Point) (own : IsCacheOf d from.cache) (mine : IsCacheOf d p.cache)
    (start : IsWithinSpan q from.at)
    (within : IsWithinSpan q p.at) (x : StandsOn d q from p) where
  abbrev rev : Bool
  rev = d.nfa.automaton.reverse

  abbrev h : List ℕ
  h = q.haystack

  abbrev now : StateValue
  now = value_before (reader d) q p.at

  abbrev index : ℕ
  index = gave_up_at rev q from.at

  abbrev was : StateValue
  was = value_before (reader d) q from.at

  later : state_after (reader d) h from.at was x.steps ≡ now
  later = value_later (reader d) q from.at start p.at x.steps within x.left

  -- what changes in a cache on a path from here
  changes_so : (w : CacheValue) (l u : ℕ) → x.steps + l ≤ u → Changes d (IsMadeAt (reader d) h p.at now l) p.cache w l →
      Changes d (IsMadeAt (reader d) h from.at was u) from.cache w u
  changes_so w l u le c =
      changes_on d (IsMadeAt (reader d) h from.at was u) from.cache p.cache x.steps
      (changes_into d (IsMadeAt (reader d) h from.at was x.steps) (IsMadeAt (reader d) h from.at was u)
      (made_within (reader d) h from.at was x.steps u (omega (arith, le))) from.cache p.cache x.steps x.changes)
      w l u le
      (changes_into d (IsMadeAt (reader d) h p.at now l) (IsMadeAt (reader d) h from.at was u)
      (λ (b : Bool) (o : Option StateValue) (t : StateValue) (y : IsMadeAt (reader d) h p.at now l b o t).
      made_within (reader d) h from.at was (x.steps + l) u le b o t
      (made_behind (reader d) h from.at p.at x.steps l x.place was x.read b o t
      (subst (λ (s : StateValue). IsMadeAt (reader d) h p.at s l b o t) (sym later) y))) p.cache w l c)

  abbrev before : ℕ
  before = min (from.cache.searched + progress_len from.cache.progress) greatest

  -- the progress of the running search
  abbrev Walks : ℕ → CacheValue → Type 0
  Walks units v =
      IsWalking rev q from.at before units (v.clears ≡ from.cache.clears) (HasCleared from.cache v) (progress_of v)

  -- what is reported with the unit here
  module _ (v : CacheValue) (kept : GrowsOrClears d p.cache v) where
    cleared_since : HasCleared p.cache v → HasCleared from.cache v
    cleared_since y = ⊎_elim
        (λ (k : KeepsOn d from.cache p.cache index). subst (λ (n : ℕ). min (n + 1) greatest ≤ v.clears) k.grows.clears y)
        (λ (c : HasCleared from.cache p.cache). cleared_grows d from.cache p.cache v c (inr y))
        x.kept

    walks_here : IsWalking rev q from.at before x.steps (p.cache.clears ≡ from.cache.clears) (HasCleared from.cache v) (progress_of p.cache)
    walks_here = walking_by rev q from.at before x.steps (p.cache.clears ≡ from.cache.clears) (HasCleared from.cache p.cache)
        (HasCleared from.cache v) (progress_of p.cache) (λ c. cleared_grows d from.cache p.cache v c kept) x.reported

    unit_by : (over : Bool) → ReportsUnit d over q p.at p.cache v →
        UnitBy (v.clears ≡ p.cache.clears) (HasCleared from.cache v) (index_there rev q from.at x.steps) (progress_of p.cache) (progress_of
        v) over
    unit_by over reported = by (subst (λ (i : ℕ). ReportsUnit d over q i p.cache v) x.place reported)
      where
        by : ReportsUnit d over q (offset_of rev from.at x.steps) p.cache v →
            UnitBy (v.clears ≡ p.cache.clears) (HasCleared from.cache v) (index_there rev q from.at x.steps) (progress_of p.cache)
            (progress_of v)
            over
        by (inl e) = inl e
        by (inr c) = inr (cleared_since c.0, c.1)

    abbrev IsToldHere : Bool → Type 0
    IsToldHere over = ((progress_of v ≡ overlapping_progress over rev q from.at before 0 x.steps) × (v.clears ≡ from.cache.clears)) ⊎
        (HasCleared from.cache v × ((m : ℕ) × (m ≤ x.steps) × (progress_of v ≡ overlapping_progress over rev q from.at 0 m x.steps)))

    told_here : (over : Bool) → ReportsUnit d over q p.at p.cache v → IsToldHere over
    told_here over reported = unit_walked rev q from.at before x.steps (p.cache.clears ≡ from.cache.clears) (v.clears ≡ p.cache.clears)
        (v.clears ≡ from.cache.clears) (HasCleared from.cache v) (λ a b. b ∙ a) (progress_of p.cache) (progress_of v) walks_here over
        (unit_by over reported)

    walks_next : ReportsUnit d false q p.at p.cache v → Walks (suc x.steps) v
    walks_next reported = unit_walks rev q from.at before x.steps (p.cache.clears ≡ from.cache.clears) (v.clears ≡ p.cache.clears)
        (v.clears ≡ from.cache.clears) (HasCleared from.cache v) (λ a b. b ∙ a) (progress_of p.cache) (progress_of v) walks_here
        (unit_by false reported)

  -- what is preserved of a cache if a path goes on from here
  module _ (best : Option (ℕ × ℕ)) (c : Point) (l : ℕ) (g : GoesTo d h (record p { best = best }) c l) where
    keeps_on : KeepsOn d from.cache p.cache index → Follows d h (record p { best = best }) c l → KeepsOn d from.cache c.cache index
    keeps_on k f = record {
      grows = grows_trans d from.cache p.cache c.cache made own k.grows f.grows;
      searched = f.searched ∙ k.searched;
      began = f.began ∙ k.began;
    }

    kept_on : KeepsOn d from.cache c.cache index ⊎ HasCleared from.cache c.cache
    kept_on = ⊎_elim
        (λ (k : KeepsOn d from.cache p.cache index). ⊎_elim
        (λ (f : Follows d h (record p { best = best }) c l). inl (keeps_on k f))
        (λ (y : HasCleared p.cache c.cache). inr (subst (λ (n : ℕ). min (n + 1) greatest ≤ c.cache.clears) k.grows.clears y))
        g.kept)
        (λ (k : HasCleared from.cache p.cache). inr (⊎_elim
        (λ (f : Follows d h (record p { best = best }) c l). cleared_grows d from.cache p.cache c.cache k (inl f.grows))
        (λ (y : HasCleared p.cache c.cache). cleared_grows d from.cache p.cache c.cache k (inr y))
        g.kept))
        x.kept

    -- the call is further on
    stands_further : IsCacheOf d c.cache → IsRow c.cache c.id → IsWithinSpan q c.at → left_at rev q p.at ≡ l + left_at rev q c.at →
        ReportsNone (reader d) h p.at now l → Walks (x.steps + l) c.cache →
        StandsOn d q from c
    stands_further his row there left none walks =
        let read = g.read now (names_held x.state) in record {
          steps = x.steps + l;
          place = g.place ∙ (ap (λ (i : ℕ). offset_of rev i l) x.place ∙ place_add rev from.at x.steps l);
          left = sum_left (left_at rev q from.at) (left_at rev q p.at) (left_at rev q c.at) x.left left;
          state = subst (HeldAt c.cache c.id) (value_later (reader d) q p.at within c.at l there left)
              (row_holds c.cache c.id (state_after (reader d) h p.at now l) d his row (g.names now (names_held x.state)));
          rest = x.rest ∙ rest_later (reader d) q p.at within c.at l there left g.place read none;
          units = x.units ∙ (ap (λ (n : ℕ). x.steps + n) (units_later (reader d) q p.at within c.at l there left g.place read none)
              ∙ sum_up (units_at (reader d) q c.at));
          kept = kept_on;
          running = g.running x.running;
          determinized = let a = x.determinized in let b = g.determinized in omega (arith, a, b);
          inserted = sum_of from.inserted p.inserted c.inserted x.steps l (most_inserts d) x.inserted g.inserted;
          quits = no_quit_on (reader d) h from.at p.at x.steps l x.place x.quits (no_quit_read (reader d) h p.at now l read);
          read = read_there (reader d) h from.at p.at x.steps x.place was l x.read
              (subst (λ (s : StateValue). AreRead (reader d) h p.at s l) (sym later) read);
          changes = changes_so c.cache l (x.steps + l) (omega arith) (g.changes now (names_held x.state));
          reported = walks;
        }
      where
        sum_left : (a b c : ℕ) → a ≡ x.steps + b → b ≡ l + c → a ≡ x.steps + l + c
        sum_left a b c e f = omega (arith, e, f)

        sum_up : (n : ℕ) → x.steps + (l + n) ≡ x.steps + l + n
        sum_up n = omega arith

  -- ---- ends

  alive : is_dead now ≡ false
  alive = let y = x.state in not_dead now (λ e. mine.lives y.0 y.1 (sym y.3 ∙ e))

  next_is : next_value (reader d) h p.at now ≡ state_after (reader d) h p.at now 1
  next_is = sym (ap (λ (i : ℕ). next_value (reader d) h i now) (place_zero rev p.at))

  some_here : 0 < units_at (reader d) q p.at
  some_here = some_units (reader d) h (left_at rev q p.at) p.at now alive

  -- ---- with an error

  kept_here : GrowsOrClears d from.cache p.cache
  kept_here = ⊎_elim (λ (k : KeepsOn d from.cache p.cache index). inl k.grows) (λ (k : HasCleared from.cache p.cache). inr k) x.kept

  module _ (v : CacheValue) (m n : ℕ) where
    many : (k : ℕ) → 0 < k → units_at (reader d) q from.at ≡ x.steps + k → m ≤ p.determinized + 1 →
        m ≤ from.determinized + units_at (reader d) q from.at
    many k l e f = let a = x.determinized in omega (arith, l, e, f, a)

    few : m ≤ p.determinized + 1 → m ≤ from.determinized + units_at (reader d) q from.at
    few f = many (units_at (reader d) q p.at) some_here x.units f

    many_names : (u : ℕ) → x.steps + 1 ≤ u → n ≤ p.inserted + 1 * most_inserts d → n ≤ from.inserted + u * most_inserts d
    many_names u l f =
        let e = mul-le-mul_right {m = x.steps + 1} {n = u} (most_inserts d) l in
        let s = sum_of from.inserted p.inserted n x.steps 1 (most_inserts d) x.inserted f in
        omega (arith, e, s)

    few_names : n ≤ p.inserted + 1 * most_inserts d → n ≤ from.inserted + units_at (reader d) q from.at * most_inserts d
    few_names f = many_names (units_at (reader d) q from.at) (let a = some_here in let e = x.units in omega (arith, a, e)) f

    refuses : (e : MatchErrorKind) → Leaves d h p v m n 0 → FailsThere d v q p.at e →
        ReportsUnit d (ends_there rev (is_quit_error e) q p.at) q p.at p.cache v →
        ((result_left (rest_at (reader d) q from.at).ends (rest_at (reader d) q from.at).rejection ≡ Err e) ⊎ (e ≡ NoMemory) ⊎
        ((y : ℕ) × (e ≡ GaveUp y) × GivesUpFrom d v q from.at y)) →
        ReadsOn d q from.at from.cache v from.determinized m from.inserted n (Err e)
    refuses e leaves there reported why = record {
      ok = tt;
      err = why;
      kept = grows_or_clears_trans d from.cache p.cache v made own kept_here leaves.kept;
      reported = tt;
      determinized = few leaves.determinized;
      inserted = few_names leaves.inserted;
      quits = tt;
      changes = changes_so v 1 (units_at (reader d) q from.at) (let a = some_here in let e = x.units in omega (arith, a, e))
          (leaves.changes now (names_held x.state));
      anew = (
        x.steps,
        let a = some_here in let e = x.units in omega (arith, a, e),
        subst (λ (i : ℕ). FailsThere d v q i e) x.place there,
        x.quits,
        told_here v leaves.kept (ends_there rev (is_quit_error e) q (offset_of rev from.at x.steps))
            (subst (λ (i : ℕ). ReportsUnit d (ends_there rev (is_quit_error e) q i) q p.at p.cache v) x.place reported),
      );
    }

    lacks_here : ((s : StateValue) → HeldAt p.cache p.id s → has_no_room d v (state_after (reader d) h p.at s 1) ≡ true) →
        has_no_room d v (value_past (reader d) q p.at) ≡ true
    lacks_here lacks = ap (has_no_room d v) (sym (past_one (reader d) q p.at within)) ∙ lacks now x.state

    pub ends_refused : (e : MatchErrorKind) → FailsUnit d q p v m n e →
        ReadsOn d q from.at from.cache v from.determinized m from.inserted n
        (Err e)
    ends_refused (Quit b y) t =
        let left = x.rest ∙ quit_left (reader d) h (left_at rev q p.at) p.at now b alive t.1 t.2 in
        refuses (Quit b y) t.0 (t.1, t.3) t.4 (inl (ap (λ (rest : Rest). result_left rest.ends rest.rejection) left
        ∙ ap (λ (i : ℕ). Err (Quit b i)) (sym t.3)))
    ends_refused (GaveUp y) t = refuses (GaveUp y) t.0.leaves (t.2, (p.id, held_moved p.cache v p.id now t.6 x.state), lacks_here t.3)
        t.5 (inr (inr (
          y,
          refl,
          record {
            unit = x.steps;
            read = let a = some_here in let e = x.units in omega (arith, a, e);
            place = t.2 ∙ ap (gave_up_at rev q) x.place;
            lacks = ap (λ (i : ℕ). has_no_room d v (value_past (reader d) q i)) (sym x.place) ∙ lacks_here t.3;
            running = λ far. t.4 (λ e. far (sym x.place ∙ e));
            quits = let one : x.steps + 1 ≡ suc x.steps = omega arith in subst (HasNoQuit (reader d) h from.at) one
                (no_quit_on (reader d) h from.at p.at x.steps 1 x.place x.quits (no_quit_once (reader d) h p.at t.1));
          },
        )))
    ends_refused NoMemory t = refuses NoMemory t.0.leaves tt t.1 (inr (inl refl))
    ends_refused (HaystackTooLong len) t = absurd t
    ends_refused (UnsupportedAnchored mode) t = absurd t
    ends_refused NotAPair t = absurd t

  -- ---- with an end, or with none

  module _ (v : CacheValue) (m n : ℕ) (position : Position) (reports : Bool) (t : StopsWith d q p v m n position reports) where
    abbrev behind : StateValue
    behind = state_after (reader d) h p.at now 1

    is_reported : reports ≡ reports_end (reader d) h p.at (next_value (reader d) h p.at now)
    is_reported = t.listed now x.state ∙ ap (reports_end (reader d) h p.at) (sym next_is)

    quiet_here : is_quit (reader d).quits (unit_at rev h p.at) ≡ false
    quiet_here = ap (λ (i : ℕ). is_quit (reader d).quits (unit_at rev h i)) (sym (place_zero rev p.at))
        ∙ (t.goes.read now (names_held x.state) 0 (omega arith)).quiet

    -- one more unit was read
    one_unit : units_at (reader d) q p.at ≡ 1
    one_unit = by reports refl
      where
        by_why : reports ≡ false → (is_dead behind ≡ true) ⊎ (p.at ≡ last_offset rev q) →
            units_met (reader d) h (left_at rev q p.at) (offset_of rev p.at 1) (next_value (reader d) h p.at now) ≡ 0
        by_why none (inl e) = dead_units (reader d) h (left_at rev q p.at) (offset_of rev p.at 1) (next_value (reader d) h p.at now)
            (ap is_dead next_is ∙ e)
        by_why none (inr e) = ap (λ (k : ℕ). units_met (reader d) h k (offset_of rev p.at 1) (next_value (reader d) h p.at now))
            (left_last rev q p.at e)

        by : (b : Bool) → reports ≡ b → units_at (reader d) q p.at ≡ 1
        by true e = tell_units (reader d) h (left_at rev q p.at) p.at now alive (sym is_reported ∙ e)
        by false e = pass_units (reader d) h (left_at rev q p.at) p.at now alive (sym is_reported ∙ e) ∙
            ap suc (by_why e (t.why e now x.state))

    kept_there : KeepsOn d from.cache t.behind index ⊎ HasCleared from.cache t.behind
    kept_there = kept_on p.best (point t.behind m n (offset_of rev p.at 1) position.id (pair_of position.best)) 1 t.goes

    moved : IsMoved t.behind v
    moved = finished_moves t.behind v (gave_up_at rev q p.at) t.ended

    cleared_there : HasCleared from.cache t.behind → HasCleared from.cache v
    cleared_there y = cleared_grows d from.cache t.behind v y (inl (grows_moved d t.behind v moved))

    abbrev units : ℕ
    units = units_at (reader d) q from.at

    all_units : units ≡ x.steps + 1
    all_units = x.units ∙ ap (λ (k : ℕ). x.steps + k) one_unit

    tells_so : KeepsOn d from.cache t.behind index → progress_of v ≡ progress_by_reading (reader d) q from.at (progress_of from.cache)
    tells_so k =
        ap progress_of t.ended
        ∙ (told_there t.behind (min (from.cache.searched + progress_len from.cache.progress) greatest) index (gave_up_at rev q p.at)
        (scan_distance rev (left_at rev q from.at) (x.steps + 1)) k.searched k.began
        (comes_far rev q from.at p.at x.steps start within x.left)
        ∙ (ap (λ (s : ℕ). record { searched = s; progress = None })
        (min_twice (from.cache.searched + progress_len from.cache.progress)
        (scan_distance rev (left_at rev q from.at) (x.steps + 1)) greatest)
        ∙ ap (λ (u : ℕ). record {
          searched = min (from.cache.searched + progress_len from.cache.progress + scan_distance rev (left_at rev q from.at) u) greatest;
          progress = None;
        }) (sym all_units)))

    -- what such a result says about the overlapping search
    abbrev IsAnswer : OverlappingValue → Type 0
    IsAnswer w = (result_left (rest_at (reader d) q from.at).ends (rest_at (reader d) q from.at).rejection ≡ Ok tt) ×
        (w.found ≡ half_of (first (rest_at (reader d) q from.at).ends)) ×
        (rest_of (reader d) q w.walk ≡ others (rest_at (reader d) q from.at)) ×
        CanContinue d v q w.walk × (w.found ≡ None → w.walk ≡ Ended) ×
        (without_id w.walk ≡ stop_after 1 (first (rest_at (reader d) q from.at).ends))

    -- the unit here has been read
    quietly : StartsQuietly d q (came rev q from.at) → StartsQuietly d q (suc (came rev q p.at))
    quietly quiet = (
      quiet.0,
      subst (HasNoQuit (reader d) h (begins_at (reader d) q)) (came_steps rev q from.at p.at x.steps start within x.left)
          (no_quit_on (reader d) h (begins_at (reader d) q) from.at (came rev q from.at) (x.steps + 1)
          (sym (place_came rev q from.at start)) quiet.1
          (no_quit_on (reader d) h from.at p.at x.steps 1 x.place x.quits (no_quit_once (reader d) h p.at quiet_here))),
    )

    kept_over : GrowsOrClears d p.cache v
    kept_over = grows_or_clears_trans d p.cache t.behind v made mine
        (⊎_elim
        (λ (f : Follows d h p (point t.behind m n (offset_of rev p.at 1) position.id (pair_of position.best)) 1). inl f.grows)
        (λ (y : HasCleared p.cache t.behind). inr y)
        t.goes.kept)
        (inl (grows_moved d t.behind v moved))

    told_over : IsToldHere v kept_over true →
        ((progress_of v ≡ progress_by_reading (reader d) q from.at (progress_of from.cache)) × (v.clears ≡ from.cache.clears)) ⊎
        (HasCleared from.cache v × ((m : ℕ) × (m < units) × (progress_of v ≡ overlapping_done rev q from.at 0 m (units - 1))))
    told_over (inl e) = inl (
      e.0 ∙ walk_is_told (reader d) q from.at p.at x.steps (progress_of from.cache) start within x.place x.left all_units,
      e.1,
    )
    told_over (inr c) = inr (
      c.0,
      (
        c.1.0,
        let l = c.1.1 in let e = all_units in omega (arith, l, e),
        c.1.2 ∙ ap (overlapping_done rev q from.at 0 c.1.0) (let e = all_units in last_unit units x.steps e),
      ),
    )
      where
        last_unit : (u k : ℕ) → u ≡ k + 1 → k ≡ u - 1
        last_unit u k e = omega (arith, e)

    stops_so : (w : OverlappingValue) → IsAnswer w → (StartsQuietly d q (came rev q from.at) → HasReadQuietly d q w.walk) →
        ReadsOn d q from.at from.cache v from.determinized m from.inserted n (Ok w)
    stops_so w ok quits = record {
      ok = ok;
      err = tt;
      kept = ⊎_elim
          (λ (k : KeepsOn d from.cache t.behind index). inl (grows_trans d from.cache t.behind v made own k.grows
          (grows_moved d t.behind v moved)))
          (λ (y : HasCleared from.cache t.behind). inr (cleared_there y))
          kept_there;
      reported = ⊎_elim
          (λ (k : KeepsOn d from.cache t.behind index). inl (
            grows_trans d from.cache t.behind v made own k.grows
                (grows_moved d t.behind v moved),
            tells_so k,
          ))
          (λ (y : HasCleared from.cache t.behind). inr (cleared_there y))
          kept_there;
      determinized = many v m n 1 (omega arith) all_units t.goes.determinized;
      inserted = many_names v m n units (let e = all_units in omega (arith, e)) t.goes.inserted;
      quits = quits;
      changes = changes_moved d (IsMadeAt (reader d) h from.at was units) from.cache t.behind v units moved
          (changes_so t.behind 1 units (let e = all_units in omega (arith, e)) (t.goes.changes now (names_held x.state)));
      anew = told_over (told_here v kept_over true t.reported);
    }

    -- without an end
    ends_none : reports ≡ false → IsAnswer (stopped false position.id position.at position.best)
    ends_none e =
        let passed = pass_left (reader d) h (left_at rev q p.at) p.at now alive quiet_here (sym is_reported ∙ e) in
        let all : rest_at (reader d) q from.at ≡ nothing_left = x.rest ∙ (passed ∙ by_why (t.why e now x.state)) in (
          ap (λ (rest : Rest). result_left rest.ends rest.rejection) all,
          sym (ap (λ (rest : Rest). half_of (first rest.ends)) all),
          sym (ap others all),
          tt,
          λ f. refl,
          sym (ap (λ (rest : Rest). stop_after 1 (first rest.ends)) all),
        )
      where
        by_why : (is_dead behind ≡ true) ⊎ (p.at ≡ last_offset rev q) →
            rest_from (reader d) h (left_at rev q p.at) (next_offset (reader d) p.at) (next_value (reader d) h p.at now) ≡ nothing_left
        by_why (inl f) = dead_left (reader d) h 0 (next_offset (reader d) p.at) (next_value (reader d) h p.at now) (left_at rev q p.at)
            (ap is_dead next_is ∙ f)
        by_why (inr f) = ap (λ (k : ℕ). rest_from (reader d) h k (next_offset (reader d) p.at) (next_value (reader d) h p.at now))
            (left_last rev q p.at f)
            ∙ none_left (reader d) h 0 (next_offset (reader d) p.at) (next_value (reader d) h p.at now)

    -- with an end
    abbrev past : StateValue
    past = value_past (reader d) q p.at

    abbrev counted : ℕ → Bool
    counted = counts (reader d).between_characters h

    lists_all : rest_at (reader d) q from.at ≡ onto (listed counted p.at past.matches) (rest_past (reader d) q p.at)
    lists_all = x.rest ∙ (step_left (reader d) h (left_at rev q p.at) p.at now alive quiet_here
        ∙ ap (λ (s : StateValue). onto (listed counted p.at s.matches)
        (rest_from (reader d) h (left_at rev q p.at) (next_offset (reader d) p.at) s))
        (sym (past_next (reader d) q p.at within)))

    best_is : pair_of position.best ≡ option_or (end_at p.at (first past.matches)) p.best
    best_is = t.goes.best now (names_held x.state)
        ∙ (ap (λ (i : ℕ). option_or (end_at i (first behind.matches)) p.best) (place_zero rev p.at)
        ∙ ap (λ (s : StateValue). option_or (end_at p.at (first s.matches)) p.best) (past_one (reader d) q p.at within))

    held_past : 1 ≤ length past.matches → HeldAt v position.id past
    held_past l = held_moved t.behind v position.id past moved (by past (past_one (reader d) q p.at within) l
        (t.goes.names now (names_held x.state)))
      where
        by : (s : StateValue) → behind ≡ s → 1 ≤ length s.matches → Names t.behind position.id behind → HeldAt t.behind position.id s
        by s e l (names_dead f g) =
            let none : length s.matches ≡ 0 = ap (λ (z : StateValue). length z.matches) (sym e ∙ g) in
            absurd (omega (arith, l, none))
        by s e l (names_held g) = subst (HeldAt t.behind position.id) e g

    ends_some : reports ≡ true → IsAnswer (stopped true position.id position.at position.best)
    ends_some e =
        let lists : reports_end (reader d) h p.at past ≡ true = ap (reports_end (reader d) h p.at) (past_next (reader d) q p.at within)
        ∙ (sym is_reported ∙ e) in
        let l = some_listed (counted p.at) p.at past.matches p.best (rest_past (reader d) q p.at) lists in (
          ap (λ (rest : Rest). result_left rest.ends rest.rejection) lists_all ∙ l.0,
          sym (half_back position.best) ∙ ap half_of (best_is ∙ sym (ap (λ (rest : Rest). first rest.ends) lists_all ∙ l.1)),
          ap (λ (i : ℕ). onto (listed counted i (drop 1 (value_past (reader d) q i).matches)) (rest_past (reader d) q i)) t.place
              ∙ (l.2 ∙ sym (ap others lists_all)),
          subst (λ (i : ℕ). StopsAt d v q (record { id = position.id; index = 1; at = i })) (sym t.place)
              (record { within = within; held = held_past l.3; index = l.3 }),
          λ f. absurd (l.4 (sym best_is ∙ ap pair_of f)),
          ap (λ (i : ℕ). Stopped (record { id = 0; index = 1; at = i })) t.place
              ∙ sym (ap (λ (rest : Rest). stop_after 1 (first rest.ends)) lists_all
              ∙ stops_first (counted p.at) p.at past.matches (rest_past (reader d) q p.at) lists),
        )

    pub ends_over : ReadsOn d q from.at from.cache v from.determinized m from.inserted n
        (Ok (stopped reports position.id position.at position.best))
    ends_over = stops_so (stopped reports position.id position.at position.best) (by reports refl) (quiet_by reports)
      where
        quiet_by : (b : Bool) → StartsQuietly d q (came rev q from.at) →
            HasReadQuietly d q (stopped b position.id position.at position.best).walk
        quiet_by true quiet = subst (λ (i : ℕ). StartsQuietly d q (suc (came rev q i))) (sym t.place) (quietly quiet)
        quiet_by false quiet = tt

        by : (b : Bool) → reports ≡ b → IsAnswer (stopped reports position.id position.at position.best)
        by true e = subst (λ (b : Bool). IsAnswer (stopped b position.id position.at position.best)) (sym e) (ends_some e)
        by false e = subst (λ (b : Bool). IsAnswer (stopped b position.id position.at position.best)) (sym e) (ends_none e)

  -- ---- the next point of the loop

  -- a unit of the span was read, and a run follows
  module _ (v : CacheValue) (m n : ℕ) (position : Position) (reports : Bool) (his : IsCacheOf d v)
      (t : ReadsInto d q p v m n position reports false) where
    pub next_there : IsWithinSpan q position.at
    next_there = next_within rev q p.at position.at within t.2 t.1

    pub stands_next : StandsOn d q from (point v m n position.at position.id (pair_of position.best))
    stands_next = stands_further p.best (point v m n position.at position.id (pair_of position.best)) 1
        (subst (λ (i : ℕ). GoesTo d h p (point v m n i position.id (pair_of position.best)) 1) (sym t.1) t.0) his t.3 next_there
        (left_next rev q p.at position.at within t.2 t.1) tells_none (walks_then (let one : suc x.steps ≡ x.steps + 1 = omega arith in one))
      where
        kept_on_next : GrowsOrClears d p.cache v
        kept_on_next = ⊎_elim
            (λ (f : Follows d h p (point v m n (offset_of rev p.at 1) position.id (pair_of position.best)) 1). inl f.grows)
            (λ (y : HasCleared p.cache v). inr y)
            t.0.kept

        walks_then : suc x.steps ≡ x.steps + 1 → Walks (x.steps + 1) v
        walks_then one = subst (λ (k : ℕ). Walks k v) one (walks_next v kept_on_next t.5)

        tells_none : ReportsNone (reader d) h p.at now 1
        tells_none zero l = ap (λ (i : ℕ). reports_end (reader d) h i (state_after (reader d) h p.at now 1)) (place_zero rev p.at)
            ∙ t.4 now x.state
        tells_none (suc k) l = absurd (omega (arith, l))

-- a run goes on
module _ (d : Dfa) (q : Search) (is_reverse : Bool) (is : is_reverse ≡ d.nfa.automaton.reverse) (made : IsDfa d) (from : Point)
    (v : CacheValue) (m n i id j to : ℕ) (best best2 : Option (ℕ × ℕ))
    (own : IsCacheOf d from.cache) (mine : IsCacheOf d v) (start : IsWithinSpan q from.at) (within : IsWithinSpan q i)
    (x : StandsOn d q from (point v m n i id best)) where
  pub stands_run : IsRow v to → IsWithinSpan q j → left_at is_reverse q j ≤ left_at is_reverse q i →
      GoesBetween d true q.haystack (point v m n i id best) (point v m n j to best2) (left_at is_reverse q i - left_at is_reverse q j) →
      StandsOn d q from (point v m n j to best2)
  stands_run row there closer g =
      stands_further d q made from (point v m n i id best) own mine start within x best (point v m n j to best2)
      (left_at is_reverse q i - left_at is_reverse q j) g.0 mine row there
      (ap (λ (b : Bool). left_at b q i) (sym is) ∙ (apart (left_at is_reverse q i) (left_at is_reverse q j) closer
      ∙ ap (λ (b : Bool). (left_at is_reverse q i - left_at is_reverse q j) + left_at b q j) is)) tells_none
      (walking_later d.nfa.automaton.reverse q from.at (min (from.cache.searched + progress_len from.cache.progress) greatest) x.steps
      (x.steps + (left_at is_reverse q i - left_at is_reverse q j)) (v.clears ≡ from.cache.clears) (HasCleared from.cache v) (progress_of v)
      (omega arith) x.reported)
    where
      apart : (a b : ℕ) → b ≤ a → a ≡ (a - b) + b
      apart a b l = omega (arith, l)

      no_end : (counted : Bool) (ms : List ℕ) → (true && not (is_empty ms)) ≡ false → (counted && not (is_empty ms)) ≡ false
      no_end true ms e = e
      no_end false ms e = refl

      tells_none : ReportsNone (reader d) q.haystack i (value_before (reader d) q i) (left_at is_reverse q i - left_at is_reverse q j)
      tells_none k l = no_end (counts (reader d).between_characters q.haystack (offset_of d.nfa.automaton.reverse i k))
          (state_after (reader d) q.haystack i (value_before (reader d) q i) (suc k)).matches
          (g.1 (value_before (reader d) q i) x.state k l)
