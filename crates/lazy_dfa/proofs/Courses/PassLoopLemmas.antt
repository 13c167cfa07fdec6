-- The loop of a scan: from one point to the next, and out of it.
use Rattle.std.proofs.Common.{◌≡◌, ◌≢◌, ◌⊎◌, inl, inr, ℕ, zero, suc, ◌+◌, ◌-◌, ◌<◌, ◌≤◌, not, nat_le, Bool, true, false, true≢false, Option}
use Rattle.std.proofs.Common.{Some, None, Ok, Err, IsSome, min, if◌then◌else◌, refl, sym, ap, ◌∙◌, subst, ⊎_elim, arith}
use Rattle.std.proofs.lemmas.Bool.{cases_lt, cases_eq, le-ltb, lt-ltb, ne_eqb, eq-eqb}
use Rattle.std.proofs.lemmas.Bool.Decides.{leb_tells}
use Rattle.nfa_core.specs.Ways.{offset_of}
use Rattle.determinize_core.specs.States.{StateValue}
use Rattle.determinize_core.specs.Steps.{unit_at}
use Rattle.search_types.specs.declared.match_error.MatchErrorKind.{MatchErrorKind}
use Rattle.search_types.specs.declared.match_error.MatchErrorKind.TheVariants.{Quit, GaveUp, HaystackTooLong, UnsupportedAnchored, NotAPair}
use Rattle.search_types.specs.declared.match_error.MatchErrorKind.TheVariants.{NoMemory}
use Rattle.search_types.specs.Found.{HalfFound}
use Rattle.search_types.specs.Inputs.{Search}
use Rattle.lazy_dfa.specs.Caches.{CacheValue, IsCacheOf, HeldAt, IsRow, greatest, has_no_room}
use Rattle.lazy_dfa.specs.Courses.{HasNoStop, state_after}
use Rattle.lazy_dfa.specs.declared.search.position.Position.{Position}
use Rattle.lazy_dfa.specs.declared.cache.progress.Progress.{Progress}
use Rattle.lazy_dfa.specs.Dfas.{Dfa, IsDfa, reader}
use Rattle.lazy_dfa.specs.LeftProgress.{is_quit_error, FailsAtUnit, LeftAt}
use Rattle.lazy_dfa.specs.Linked.{HasCleared, IsMoved}
use Rattle.lazy_dfa.specs.MadeScans.{span_len}
use Rattle.lazy_dfa.specs.Scans.{index_at}
use Rattle.lazy_dfa.specs.Points.{Point, Follows, point, began}
use Rattle.lazy_dfa.specs.HalfSearches.{first_offset}
use Rattle.lazy_dfa.specs.SearchAnswers.{pair_of, give_up_offset, progress_of, progress_past}
use Rattle.lazy_dfa.specs.ScanOffsets.{last_offset, came, left_at, reports, BeganFirst, BeginsFirst, IsWithinSpan, GoesBetween, gave_up_at}
use Rattle.lazy_dfa.specs.ScanOffsets.{turned_progress, ReportsTurn, TurnsInto, TurnsTo, EndsWith, RestAnew, RestFails, IsRestReported}
use Rattle.lazy_dfa.specs.ScanOffsets.{RunsOn}
use Rattle.lazy_dfa.specs.ScanSteps.{Leaves}
use Rattle.lazy_dfa.proofs.Courses.AnewToldLemmas.{came_last, came_less, IsGoing, going_by, going_later, begun_so, going_first, going_on}
use Rattle.lazy_dfa.proofs.Courses.AnewToldLemmas.{refused_so, ends_told}
use Rattle.lazy_dfa.proofs.CacheChanges.LinkedLemmas.{AreBytes, cleared_grows}
use Rattle.lazy_dfa.proofs.Courses.SpanTurnLemmas.{cleared_between, held_moved}
use Rattle.lazy_dfa.proofs.Courses.RunLemmas.{between_on, held_here, next_is, reads_this, runs_found, runs_quit, runs_no_memory}
use Rattle.lazy_dfa.proofs.Courses.RunLemmas.{runs_gave_up}

-- ---- offsets

came_first : (is_reverse : Bool) (q : Search) (i : ℕ) → IsWithinSpan q i →
    left_at is_reverse q (first_offset is_reverse q.start q.end) - left_at is_reverse q i ≡ came is_reverse q i
came_first false q i w = omega (arith, w.0, w.1)
came_first true q i w = omega (arith, w.0, w.1)

came_on : (is_reverse : Bool) (q : Search) (i j k : ℕ) → IsWithinSpan q i → i ≢ last_offset is_reverse q → j ≡ offset_of is_reverse i 1 →
    IsWithinSpan q k → left_at is_reverse q k ≤ left_at is_reverse q j →
    came is_reverse q i + 1 + (left_at is_reverse q j - left_at is_reverse q k) ≡ came is_reverse q k
came_on false q i j k w n e x l = omega (arith, w.0, w.1, n, e, x.0, x.1, l)
came_on true q i j k w n e x l = omega (arith, w.0, w.1, n, e, x.0, x.1, l)

pub next_within : (is_reverse : Bool) (q : Search) (i j : ℕ) → IsWithinSpan q i → i ≢ last_offset is_reverse q →
    j ≡ offset_of is_reverse i 1 → IsWithinSpan q j
next_within false q i j w n e = (omega (arith, w.0, w.1, n, e), omega (arith, w.0, w.1, n, e))
next_within true q i j w n e = (omega (arith, w.0, w.1, n, e), omega (arith, w.0, w.1, n, e))

came_inside : (is_reverse : Bool) (q : Search) (i : ℕ) → IsWithinSpan q i → came is_reverse q i ≤ span_len q
came_inside false q i w = omega (arith, w.0, w.1)
came_inside true q i w = omega (arith, w.0, w.1)

-- a scan that reports nothing is at its last offset
pub told_nothing : (is_reverse : Bool) (q : Search) (i : ℕ) → IsWithinSpan q i → i ≢ last_offset is_reverse q →
    reports is_reverse q ≡ false →
    ⊥
told_nothing false q i w n e = true≢false e
told_nothing true q i w n e = ⊎_elim
    (λ (l : q.start < q.end). true≢false (sym (ap not (le_no q.end q.start l)) ∙ e))
    (λ (l : q.end ≤ q.start). omega (arith, w.0, w.1, n, l))
    (cases_lt q.start q.end)
  where
    le_no : (a b : ℕ) → b < a → nat_le a b ≡ false
    le_no a b l = ⊎_elim (λ p. absurd (not_both a b l p.1)) (λ z. z.0) (leb_tells a b)
      where
        not_both : (a b : ℕ) → b < a → a ≤ b → ⊥
        not_both a b l g = omega (arith, l, g)

gave_up_there : (is_reverse : Bool) (q : Search) (i from k : ℕ) → IsWithinSpan q i → i ≡ offset_of is_reverse from k →
    k ≡ came is_reverse q i → gave_up_at is_reverse q i ≡ give_up_offset is_reverse (span_len q) from k
gave_up_there is_reverse q i from k w there is = by (cases_at i (last_offset is_reverse q))
  where
    cases_at : (a b : ℕ) → (a ≡ b) ⊎ (a ≢ b)
    cases_at a b = cases_eq a b

    by : (i ≡ last_offset is_reverse q) ⊎ (i ≢ last_offset is_reverse q) →
        gave_up_at is_reverse q i ≡ give_up_offset is_reverse (span_len q) from k
    by (inl e) =
        let far = is ∙ came_last is_reverse q i e in
        ap (λ (b : Bool). if b then i else index_at is_reverse i) (eq-eqb i (last_offset is_reverse q) e)
        ∙ (there ∙ sym (ap (λ (b : Bool). if b then index_at is_reverse (offset_of is_reverse from k)
        else offset_of is_reverse from k) (le-ltb k (span_len q) (omega (arith, far)))))
    by (inr n) =
        let less = came_less is_reverse q i w n in
        ap (λ (b : Bool). if b then i else index_at is_reverse i) (ne_eqb i (last_offset is_reverse q) n)
        ∙ (ap (index_at is_reverse) there ∙ sym (ap (λ (b : Bool). if b then index_at is_reverse (offset_of is_reverse from k)
        else offset_of is_reverse from k) (lt-ltb k (span_len q) (omega (arith, is, less)))))

-- a search that began is running
pub began_runs : (p : Option Progress) (x : ℕ) → began p ≡ Some x → IsSome p
began_runs None x e = let never : None ≡ Some x = e in cc
began_runs (Some p) x e = refl

-- ---- the progress of the search

-- at a point of the loop: since the search began, or since the cache was cleared
abbrev pub IsUnder : Bool → Search → ℕ → CacheValue → CacheValue → ℕ → Type 0
IsUnder is_reverse q i old now k = reports is_reverse q ≡ true → IsGoing is_reverse (span_len q) i old.searched k (now.clears ≡ old.clears)
    (HasCleared old now) (progress_of now)

pub under_first : (is_reverse : Bool) (q : Search) (v : CacheValue) (at : ℕ) → BeginsFirst is_reverse q v →
    IsUnder is_reverse q (first_offset is_reverse q.start q.end) v v (came is_reverse q at)
under_first is_reverse q v at begins t =
    going_later is_reverse (span_len q) (first_offset is_reverse q.start q.end) v.searched 0 (came is_reverse q at) (v.clears ≡ v.clears)
    (HasCleared v v) (progress_of v) (omega arith)
    (going_first q is_reverse (first_offset is_reverse q.start q.end) (v.clears ≡ v.clears) (HasCleared v v) (progress_of v) refl t
    (begun_so q is_reverse (first_offset is_reverse q.start q.end) v refl begins t))

-- ---- points of the loop

-- where a run may start in a scan
pub stand_first : (d : Dfa) (q : Search) (is_reverse : Bool) (v : CacheValue) (m n id i j : ℕ) (b : Option (ℕ × ℕ)) →
    GoesBetween d q.earliest q.haystack (point v m n (first_offset is_reverse q.start q.end) id None) (point v m n i j b)
    (left_at is_reverse q (first_offset is_reverse q.start q.end) - left_at is_reverse q i) → IsWithinSpan q i →
    GoesBetween d q.earliest q.haystack (point v m n (first_offset is_reverse q.start q.end) id None) (point v m n i j b)
    (came is_reverse q i)
stand_first d q is_reverse v m n id i j b g w =
    subst (GoesBetween d q.earliest q.haystack (point v m n (first_offset is_reverse q.start q.end) id None) (point v m n i j b))
    (came_first is_reverse q i w) g

module _ (d : Dfa) (q : Search) (is_reverse : Bool) (is : is_reverse ≡ d.nfa.automaton.reverse) (made : IsDfa d)
    (bytes : AreBytes q.haystack) (from p : Point) (own : IsCacheOf d from.cache)
    (mine : IsCacheOf d p.cache) (row : IsRow from.cache from.id) (here : IsRow p.cache p.id) (within : IsWithinSpan q p.at)
    (between : GoesBetween d q.earliest q.haystack from p (came is_reverse q p.at)) where
  -- what a turn reports, if it is known whether the cache was cleared since the scan began
  module _ (v : CacheValue) where
    abbrev since : Type 0
    since = HasCleared from.cache v

    clears_now : HasCleared p.cache v → since
    clears_now c = ⊎_elim
        (λ (f : Follows d q.haystack from p (came is_reverse q p.at)). subst (λ (n : ℕ). min (n + 1) greatest ≤ v.clears) f.grows.clears c)
        (λ (x : HasCleared from.cache p.cache). cleared_grows d from.cache p.cache v x (inr c))
        between.0.kept

    turn_as : (finishes ends : Bool) → ReportsTurn d finishes ends q p.at p.cache v →
        ((progress_of v ≡ turned_progress is_reverse finishes ends false q p.at (progress_of p.cache)) × (v.clears ≡ p.cache.clears)) ⊎
        (since × (progress_of v ≡ turned_progress is_reverse finishes ends true q p.at (progress_of p.cache)))
    turn_as finishes ends t = ⊎_elim
        (λ (e : (progress_of v ≡ turned_progress d.nfa.automaton.reverse finishes ends false q p.at (progress_of p.cache)) ×
        (v.clears ≡ p.cache.clears)).
        inl (e.0 ∙ ap (λ (b : Bool). turned_progress b finishes ends false q p.at (progress_of p.cache)) (sym is), e.1))
        (λ (c : HasCleared p.cache v × (progress_of v ≡ turned_progress d.nfa.automaton.reverse finishes ends true q p.at (progress_of
        p.cache))).
        inr (clears_now c.0, c.1 ∙ ap (λ (b : Bool). turned_progress b finishes ends true q p.at (progress_of p.cache)) (sym is)))
        t

  module _ (v : CacheValue) (m n : ℕ) (next : Position) (his : IsCacheOf d v) (t : TurnsInto d q p v m n next false) where
    pub goes_further : p.at ≢ last_offset is_reverse q
    goes_further e = t.2 (e ∙ ap (λ (x : Bool). last_offset x q) is)

    pub next_there : next.at ≡ offset_of is_reverse p.at 1
    next_there = t.1 ∙ ap (λ (x : Bool). offset_of x p.at 1) (sym is)

    one_stop : (s : StateValue) → HeldAt p.cache p.id s → HasNoStop (reader d) q.earliest q.haystack p.at s 1
    one_stop s held zero l = t.4 s held
    one_stop s held (suc k) l = absurd (omega (arith, l))

    to_next : GoesBetween d q.earliest q.haystack from (point v m n next.at next.id (pair_of next.best)) (came is_reverse q p.at + 1)
    to_next = subst (λ (x : ℕ). GoesBetween d q.earliest q.haystack from (point v m n x next.id (pair_of next.best))
        (came is_reverse q p.at + 1)) (sym t.1)
        (between_on d q.earliest q.haystack made bytes from p (point v m n (offset_of d.nfa.automaton.reverse p.at 1) next.id
        (pair_of next.best)) (came is_reverse q p.at) 1 own mine row here
        between (t.0, one_stop))

    -- the search goes on
    pub under_on : (first : ℕ) → first ≡ first_offset is_reverse q.start q.end → from.at ≡ first → (at : ℕ) → IsWithinSpan q at →
        left_at is_reverse q at ≤ left_at is_reverse q next.at →
        IsUnder is_reverse q first from.cache p.cache (came is_reverse q p.at) →
        IsUnder is_reverse q first from.cache v (came is_reverse q at)
    under_on first start same at w closer under tell =
        going_later is_reverse (span_len q) first from.cache.searched (suc (came is_reverse q p.at)) (came is_reverse q at)
        (v.clears ≡ from.cache.clears) (since v) (progress_of v) far
        (going_on q is_reverse p.at (came is_reverse q p.at) first (p.cache.clears ≡ from.cache.clears) (v.clears ≡ p.cache.clears)
        (v.clears ≡ from.cache.clears) (since v) (λ a b. b ∙ a) (progress_of from.cache) (progress_of p.cache)
        (progress_of v) within place_so start refl
        (λ e. going_by is_reverse (span_len q) first from.cache.searched (came is_reverse q p.at) (p.cache.clears ≡ from.cache.clears)
        (HasCleared from.cache p.cache) (since v) (progress_of p.cache) clears_on (under e)) tell goes_further (turn_as v false false t.5))
      where
        far : suc (came is_reverse q p.at) ≤ came is_reverse q at
        far = let e = came_on is_reverse q p.at next.at at within goes_further next_there w closer in omega (arith, e)

        place_so : p.at ≡ offset_of is_reverse first (came is_reverse q p.at)
        place_so = between.0.place ∙ (ap (λ (x : Bool). offset_of x from.at (came is_reverse q p.at)) (sym is)
            ∙ ap (λ (i : ℕ). offset_of is_reverse i (came is_reverse q p.at)) same)

        clears_on : HasCleared from.cache p.cache → since v
        clears_on c = ⊎_elim
            (λ (f : Follows d q.haystack p (point v m n (offset_of d.nfa.automaton.reverse p.at 1) next.id (pair_of next.best)) 1).
            cleared_grows d from.cache p.cache v c (inl f.grows))
            (λ (x : HasCleared p.cache v). cleared_grows d from.cache p.cache v c (inr x))
            t.0.kept

    pub stand_on : (i j : ℕ) (b : Option (ℕ × ℕ)) → IsWithinSpan q i → left_at is_reverse q i ≤ left_at is_reverse q next.at →
        GoesBetween d q.earliest q.haystack (point v m n next.at next.id (pair_of next.best)) (point v m n i j b)
        (left_at is_reverse q next.at - left_at is_reverse q i) →
        GoesBetween d q.earliest q.haystack from (point v m n i j b) (came is_reverse q i)
    stand_on i j b w closer g =
        subst (GoesBetween d q.earliest q.haystack from (point v m n i j b))
        (came_on is_reverse q p.at next.at i within goes_further next_there w closer)
        (between_on d q.earliest q.haystack made bytes from (point v m n next.at next.id (pair_of next.best)) (point v m n i j b)
        (came is_reverse q p.at + 1)
        (left_at is_reverse q next.at - left_at is_reverse q i) own his row t.3 to_next g)

  -- ---- ends

  module _ (s : StateValue) (held : HeldAt from.cache from.id s) (none : from.best ≡ None) (v : CacheValue) (m n : ℕ) where
    inside : came is_reverse q p.at ≤ span_len q
    inside = came_inside is_reverse q p.at within

    module _ (begins : BeginsFirst is_reverse q from.cache) (same : reports is_reverse q ≡ false →
        p.cache ≡ from.cache) (start : from.at ≡ first_offset is_reverse q.start q.end)
        (under : IsUnder is_reverse q from.at from.cache p.cache (came is_reverse q p.at)) where
      begun : BeganFirst is_reverse q from.cache
      begun t = ap began (begins t)

      abbrev back : Bool
      back = d.nfa.automaton.reverse

      abbrev k : ℕ
      k = came is_reverse q p.at

      place : p.at ≡ offset_of back from.at k
      place = between.0.place

      abbrev clr : Type 0
      clr = HasCleared from.cache v

      place_so : p.at ≡ offset_of is_reverse from.at k
      place_so = place ∙ ap (λ (b : Bool). offset_of b from.at k) (sym is)

      under_here : (HasCleared from.cache p.cache → clr) → reports is_reverse q ≡ true →
          IsGoing is_reverse (span_len q) from.at from.cache.searched k (p.cache.clears ≡ from.cache.clears) clr (progress_of p.cache)
      under_here on t = going_by is_reverse (span_len q) from.at from.cache.searched k (p.cache.clears ≡ from.cache.clears)
          (HasCleared from.cache p.cache) clr (progress_of p.cache) on (under t)

      untold : reports is_reverse q ≡ false → (progress_of p.cache ≡ progress_of from.cache) × (p.cache.clears ≡ from.cache.clears)
      untold t = (ap progress_of (same t), ap (λ (c : CacheValue). c.clears) (same t))

      left : (e : MatchErrorKind) → FailsAtUnit d v q.haystack s (span_len q) from.at k e → Leaves d q.haystack p v m n 0 →
          ReportsTurn d (is_quit_error e) false q p.at p.cache v →
          IsRestReported d q s from.at (Err e) from.cache v
      left e refused leaves turn = (
        k,
        reads_this d q made bytes s from p k own mine held here none between inside,
        refused,
        subst (λ (b : Bool). (LeftAt b (is_quit_error e) (span_len q) from.at k (progress_of from.cache) (progress_of v) ×
            (v.clears ≡ from.cache.clears)) ⊎ (clr × RestFails b (is_quit_error e) q from.at k (progress_of v))) is
            (refused_so q is_reverse p.at k from.at (p.cache.clears ≡ from.cache.clears) (v.clears ≡ p.cache.clears)
            (v.clears ≡ from.cache.clears) clr (λ a b. b ∙ a) (progress_of from.cache) (progress_of p.cache)
            (progress_of v) within place_so start refl
            (under_here (λ c. cleared_grows d from.cache p.cache v c leaves.kept)) (begun_so q is_reverse from.at from.cache start begins)
            (is_quit_error e) untold
            (turn_as v (is_quit_error e) false turn)),
      )

      gave_up_place : (x : ℕ) → x ≡ gave_up_at back q p.at → x ≡ give_up_offset back (span_len q) from.at k
      gave_up_place x e =
          e ∙ (ap (λ (y : Bool). gave_up_at y q p.at) (sym is)
          ∙ (gave_up_there is_reverse q p.at from.at k within (place ∙ ap (λ (y : Bool). offset_of y from.at k) (sym is)) refl
          ∙ ap (λ (y : Bool). give_up_offset y (span_len q) from.at k) is))

      -- the unit is a quit byte, or the state after it has no room and the one before it is held
      quit_here : (b x : ℕ) → unit_at back q.haystack p.at ≡ Some b → x ≡ index_at back p.at →
          FailsAtUnit d v q.haystack s (span_len q) from.at k (Quit b x)
      quit_here b x unit is = (sym (ap (unit_at back q.haystack) place) ∙ unit, is ∙ ap (index_at back) place)

      gave_up_here : (x : ℕ) → x ≡ gave_up_at back q p.at → IsMoved p.cache v →
          ((t : StateValue) → HeldAt p.cache p.id t → has_no_room d v (state_after (reader d) q.haystack p.at t 1) ≡ true) →
          FailsAtUnit d v q.haystack s (span_len q) from.at k (GaveUp x)
      gave_up_here x is moved lacks =
          let state = state_after (reader d) q.haystack from.at s k in
          let there = held_here d q made bytes s from p k own mine held here none between inside in (
            gave_up_place x is,
            (p.id, held_moved p.cache v p.id state moved there),
            sym (ap (has_no_room d v) (next_is d q made bytes s from p k own mine held here none between inside)) ∙ lacks state there,
          )

      pub ends_error : (e : MatchErrorKind) → TurnsTo d q p v m n (Err e) → RunsOn d q s from v m n (Err e)
      ends_error (Quit b x) t = runs_quit d q made bytes s from p k own mine held here none between inside v m n t.0 b x t.1 t.2 t.3
          (left (Quit b x) (quit_here b x t.1 t.3) t.0 t.4)
      ends_error (GaveUp x) t =
          runs_gave_up d q made bytes s from p k own mine held here none between inside v m n t.0 x (gave_up_place x t.2) t.3
          (λ l. t.4 (λ e. let far = came_last is_reverse q p.at (e ∙ ap (λ (y : Bool). last_offset y q) (sym is)) in omega (arith, l, far)))
          t.1 (left (GaveUp x) (gave_up_here x t.2 t.6 t.3) t.0.leaves t.5)
      ends_error NoMemory t = runs_no_memory d q made bytes s from p k own mine held here none between inside v m n t.0
          (left NoMemory tt t.0.leaves t.1)
      ends_error (HaystackTooLong len) t = absurd t
      ends_error (UnsupportedAnchored mode) t = absurd t
      ends_error NotAPair t = absurd t

      -- a turn that ended the scan
      end_keeps : (b : Option (ℕ × ℕ)) → EndsWith d q p v m n b → HasCleared from.cache p.cache → clr
      end_keeps b x c = ⊎_elim
          (λ (f : Follows d q.haystack (record p { cache = x.before }) (point x.behind m n (offset_of back p.at 1) x.id b) 1).
          subst (λ (y : ℕ). min (from.cache.clears + 1) greatest ≤ y) (sym (ap (λ (w : CacheValue). w.clears) x.ended
          ∙ (f.grows.clears ∙ ap (λ (w : CacheValue). w.clears) x.begun))) c)
          (λ (y : HasCleared x.before x.behind). cleared_grows d from.cache p.cache v c
          (inr (cleared_between p.cache x.before x.behind v x.begun x.ended y)))
          x.goes.kept

      pub ends_found : (b : Option HalfFound) → TurnsInto d q p v m n (record { at = p.at; id = p.id; best = b }) true →
          RunsOn d q s from v m n (Ok b)
      ends_found b x =
          runs_found d q made bytes s from p k own mine held here none between inside v m n b x
          (λ e. came_last is_reverse q p.at (e ∙ ap (λ (y : Bool). last_offset y q) (sym is)))
          (ap (λ (y : Bool). came y q p.at) is)
          (subst (λ (y : Bool). BeganFirst y q from.cache) is begun)
          (λ e. same (ap (λ (y : Bool). reports y q) is ∙ e))
          (subst (λ (b : Bool). ((progress_of v ≡ progress_past b (span_len q) (progress_of from.cache) (suc k)) ×
          (v.clears ≡ from.cache.clears)) ⊎
          (clr × RestAnew b q (suc k) (progress_of v))) is
          (ends_told q is_reverse p.at k from.at (p.cache.clears ≡ from.cache.clears) (v.clears ≡ p.cache.clears)
          (v.clears ≡ from.cache.clears) clr (λ a b. b ∙ a) (progress_of from.cache) (progress_of p.cache)
          (progress_of v) within place_so start refl
          (under_here (end_keeps (pair_of b) x)) untold (turn_as v true true x.reports)))

-- the next point is in the span, and closer to its end
module _ (d : Dfa) (q : Search) (is_reverse : Bool) (p : Point) (v : CacheValue) (m n : ℕ) (next : Position) where
  abbrev rev : Bool
  rev = d.nfa.automaton.reverse

  pub within_next : is_reverse ≡ rev → IsWithinSpan q p.at → TurnsInto d q p v m n next false → IsWithinSpan q next.at
  within_next is w t = next_within rev q p.at next.at w t.2 t.1
