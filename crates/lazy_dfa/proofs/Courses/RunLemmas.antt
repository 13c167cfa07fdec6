-- The rest of a scan, by the turns that it makes one after the other.
use Rattle.std.proofs.Common.{◌≡◌, ◌⊎◌, inl, inr, ℕ, suc, ◌+◌, ◌-◌, ◌*◌, ◌<◌, ◌≤◌, ◌==◌, ◌&&◌, not, min, Bool, true, false, List, Option}
use Rattle.std.proofs.Common.{Some, None, Ok, Err, get_or, if◌then◌else◌, refl, sym, ap, ◌∙◌, subst, ⊎_elim, arith, true≢false}
use Rattle.std.proofs.lemmas.Bool.{cases_Bool, cases_lt, le-leb, ne_eqb}
use Rattle.std.proofs.Math.Nat.{mul-le-mul_right, suc-mul}
use Rattle.search_core.specs.ByteSets.{has}
use Rattle.nfa_core.specs.Ways.{offset_of}
use Rattle.determinize_core.specs.States.{StateValue}
use Rattle.determinize_core.specs.Steps.{unit_at}
use Rattle.search_types.specs.declared.match_error.MatchErrorKind.{MatchErrorKind}
use Rattle.search_types.specs.declared.match_error.MatchErrorKind.TheVariants.{Quit, GaveUp, NoMemory}
use Rattle.search_types.specs.Found.{HalfFound}
use Rattle.search_types.specs.Inputs.{Search}
use Rattle.lazy_dfa.specs.Caches.{CacheValue, IsCacheOf, HeldAt, IsRow, Names, names_held, greatest, has_no_room}
use Rattle.lazy_dfa.specs.Changes.{Changes, IsMadeAt}
use Rattle.lazy_dfa.specs.Courses.{state_after, best_after, AreRead, HasNoStop, stops_after}
use Rattle.lazy_dfa.specs.Dfas.{Dfa, IsDfa, reader}
use Rattle.lazy_dfa.specs.Linked.{IsLinkedOver, CacheGrows, HasCleared, GrowsOrClears, IsMoved}
use Rattle.lazy_dfa.specs.MadeScans.{span_len}
use Rattle.lazy_dfa.specs.Scans.{index_at, is_empty, is_dead, pass_from}
use Rattle.lazy_dfa.specs.ScanLaws.{units_read, unit_of, HasNoQuit}
use Rattle.lazy_dfa.proofs.OverlappingWalks.WalkQuitLemmas.{no_quit_once, no_quit_read, no_quit_on}
use Rattle.lazy_dfa.specs.Points.{Point, Follows, IsFree, GoesTo, point}
use Rattle.lazy_dfa.specs.Readers.{HalfAnswer, found, quit, is_quit}
use Rattle.lazy_dfa.specs.SearchAnswers.{half_of, pair_of, reported, give_up_offset, ProgressValue, progress_of, scan_distance, running_at}
use Rattle.lazy_dfa.specs.ScanOffsets.{last_offset, came, reports, BeganFirst, progress_past, GoesBetween, EndsWith, RestAnew}
use Rattle.lazy_dfa.specs.ScanOffsets.{IsRestReported}
use Rattle.lazy_dfa.specs.ScanOffsets.{RunsOn}
use Rattle.lazy_dfa.specs.Steps.{most_inserts}
use Rattle.lazy_dfa.specs.ScanSteps.{Leaves, FailsOn}
use Rattle.lazy_dfa.proofs.CacheChanges.ChangesLemmas.{changes_into, changes_on, changes_moved, changes_from_moved, made_within}
use Rattle.lazy_dfa.proofs.CacheChanges.ChangesLemmas.{made_behind}
use Rattle.lazy_dfa.proofs.Courses.CourseLemmas.{state_there, unit_there, not_dead}
use Rattle.lazy_dfa.proofs.CacheChanges.IsCacheLemmas.{row_is_plain}
use Rattle.lazy_dfa.proofs.CacheChanges.LinkedLemmas.{AreBytes, grows_trans, grows_or_clears_trans, cleared_grows, moved_trans, names_moved}
use Rattle.lazy_dfa.proofs.CacheChanges.LinkedLemmas.{noted_moved}
use Rattle.lazy_dfa.proofs.CacheChanges.LinkedLemmas.{moved_starts, grows_moved, id_moved, linked_moved, linked_less}
use Rattle.lazy_dfa.proofs.Courses.PassEndLemmas.{ends_dead, ends_stop, ends_last, ends_quit, reads_on}
use Rattle.lazy_dfa.proofs.Courses.PointLemmas.{goes_on, held_plain, linked_from}
use Rattle.lazy_dfa.proofs.HalfSearches.TurnLemmas.{dead_is}
use Rattle.nfa_core.proofs.ForCallers.{place_zero}

-- ---- scans one after the other

-- the point is at an ID of a row, so the cache holds its state
pub row_holds : (v : CacheValue) (id : ℕ) (s : StateValue) (d : Dfa) → IsCacheOf d v → IsRow v id → Names v id s → HeldAt v id s
row_holds v id s d own row named = held_plain v id s (row_is_plain v id row.0 own.shape row.1 row.2) named

module _ (d : Dfa) (earliest : Bool) (h : List ℕ) (made : IsDfa d) (bytes : AreBytes h) (a b c : Point) (k l : ℕ)
    (own : IsCacheOf d a.cache) (mine : IsCacheOf d b.cache)
    (row : IsRow a.cache a.id) (here : IsRow b.cache b.id) (f : GoesBetween d earliest h a b k) (g : GoesBetween d earliest h b c l) where
  abbrev stop_at : StateValue → Bool
  stop_at s = earliest && not (is_empty s.matches)

  no_stop_on : (s : StateValue) → HeldAt a.cache a.id s → HasNoStop (reader d) earliest h a.at s (k + l)
  no_stop_on s held m lt = ⊎_elim
      (λ (e : m < k). f.1 s held m e)
      (λ (e : k ≤ m).
      let there = row_holds b.cache b.id (state_after (reader d) h a.at s k) d mine here (f.0.names s (names_held held)) in
      let same : k + suc (m - k) ≡ suc m = omega (arith, e) in
      let is = sym (ap (state_after (reader d) h a.at s) same) ∙ sym (state_there (reader d) h a.at b.at k f.0.place s (suc (m - k))) in
      stop_of (state_after (reader d) h a.at s (suc m)) (state_after (reader d) h b.at (state_after (reader d) h a.at s k) (suc (m - k)))
      is
      (g.1 (state_after (reader d) h a.at s k) there (m - k) (omega (arith, e, lt))))
      (cases_lt m k)
    where
      stop_of : (s t : StateValue) → s ≡ t → stop_at t ≡ false → stop_at s ≡ false
      stop_of s t e q = ap stop_at e ∙ q

  pub between_on : GoesBetween d earliest h a c (k + l)
  between_on = (goes_on d h made bytes a b c k l own mine row f.0 g.0, no_stop_on)

-- ---- moved caches

-- the cache as it would be if no search had reported its progress to it
abbrev pub as_told : CacheValue → CacheValue → CacheValue
as_told v w = record w { searched = v.searched; progress = v.progress }

pub as_told_back : (v w : CacheValue) → IsMoved (as_told v w) w
as_told_back v w = refl

module _ (d : Dfa) (h : List ℕ) (a : Point) (w : CacheValue) (c : Point) (k : ℕ) (e : IsMoved a.cache w)
    (g : GoesTo d h (record a { cache = w }) c k) where
  abbrev kept_as : CacheValue
  kept_as = as_told a.cache c.cache

  grows_as : CacheGrows d w c.cache → CacheGrows d a.cache kept_as
  grows_as f = record {
    names = λ i s n. names_moved d c.cache kept_as refl i s (f.names i s (names_moved d a.cache w e i s n));
    known = λ i u r unit n. f.known i u (row_moved i r) unit (λ z. n (sym (noted_moved d a.cache w e i u) ∙ z))
        ∙ noted_moved d a.cache w e i u;
    starts = λ i n. f.starts i (λ z. n (sym (starts_same i) ∙ z)) ∙ starts_same i;
    clears = f.clears ∙ (grows_moved d a.cache w e).clears;
  }
    where
      row_moved : (i : ℕ) → IsRow a.cache i → IsRow w i
      row_moved i r = subst (λ (x : CacheValue). IsRow x i) (sym e) r

      starts_same : (i : ℕ) → get_or w.starts i 0 ≡ get_or a.cache.starts i 0
      starts_same i = ap (λ (c : List ℕ). get_or c i 0) (moved_starts d a.cache w e)

  pub goes_as_told : GoesTo d h a (record c { cache = kept_as }) k
  goes_as_told = record {
    place = g.place;
    names = λ s named. names_moved d c.cache kept_as refl c.id (state_after (reader d) h a.at s k)
        (g.names s (names_moved d a.cache w e a.id s named));
    read = λ s named. g.read s (names_moved d a.cache w e a.id s named);
    best = λ s named. g.best s (names_moved d a.cache w e a.id s named);
    kept = ⊎_elim
        (λ (f : Follows d h (record a { cache = w }) c k). inl (record {
          grows = grows_as f.grows;
          leads = id_moved d c.cache kept_as refl h a.at a.id k ∙ f.leads;
          linked = linked_moved d c.cache kept_as refl h a.at a.id k f.linked;
          searched = refl;
          began = refl;
        }))
        (λ (x : HasCleared w c.cache). inr (subst (λ (n : ℕ). min (n + 1) greatest ≤ c.cache.clears) (grows_moved d a.cache w e).clears x))
        g.kept;
    free = λ l. let f = g.free (linked_moved d a.cache w e h a.at a.id k l) in record {
      moved = moved_trans a.cache w kept_as e (moved_trans w c.cache kept_as f.moved refl);
      leads = sym (id_moved d a.cache w e h a.at a.id k) ∙ f.leads;
      determinized = f.determinized;
      inserted = f.inserted;
    };
    running = λ r. r;
    determinized = g.determinized;
    inserted = g.inserted;
    changes = λ s named.
        changes_moved d (IsMadeAt (reader d) h a.at s k) a.cache c.cache kept_as k refl
        (changes_from_moved d (IsMadeAt (reader d) h a.at s k) a.cache w c.cache k e
        (g.changes s (names_moved d a.cache w e a.id s named)));
  }

sum_to : (a b c k u w : ℕ) → k < u → b ≤ a + k * w → c ≤ b + 1 * w → c ≤ a + u * w
sum_to a b c k u w l f g =
    let e = mul-le-mul_right {m = suc k} {n = u} w (omega (arith, l)) in
    let one = suc-mul k w in omega (arith, e, one, f, g)

-- ---- results

pub half_back : (b : Option HalfFound) → half_of (pair_of b) ≡ b
half_back None = refl
half_back (Some m) = refl

-- ---- what is reported

-- if something is reported, it is added to what was searched before
abbrev added : Bool → ℕ → ℕ → ℕ → ProgressValue
added is_reverse n units searched = record { searched = min (searched + scan_distance is_reverse n units) greatest; progress = None }

told_by_searched : (is_reverse : Bool) (n units : ℕ) (v w : CacheValue) → v.searched ≡ w.searched → (is_reverse && n == 0) ≡ false →
    progress_past is_reverse n (progress_of v) units ≡ progress_past is_reverse n (progress_of w) units
told_by_searched is_reverse n units v w e none =
    ap (λ (b : Bool). if b then progress_of v else added is_reverse n units v.searched) none
    ∙ (ap (added is_reverse n units) e ∙ sym (ap (λ (b : Bool). if b then progress_of w else added is_reverse n units w.searched) none))

tells_some : (is_reverse : Bool) (q : Search) → reports is_reverse q ≡ true → (is_reverse && span_len q == 0) ≡ false
tells_some false q e = refl
tells_some true q e = ⊎_elim
    (λ (l : q.end ≤ q.start). let never = sym (ap not (le-leb q.end q.start l)) ∙ e in absurd (true≢false (sym never)))
    (λ (l : q.start < q.end). ne_eqb (span_len q) 0 (λ z. omega (arith, l, z)))
    (cases_le q.end q.start)
  where
    cases_le : (a b : ℕ) → (a ≤ b) ⊎ (b < a)
    cases_le a b = ⊎_elim (λ (l : b < a). inr l) (λ (l : a ≤ b). inl l) (cases_lt b a)

-- ---- ends

module _ (d : Dfa) (q : Search) (made : IsDfa d) (bytes : AreBytes q.haystack) (s : StateValue) (from p : Point) (k : ℕ)
    (own : IsCacheOf d from.cache) (mine : IsCacheOf d p.cache)
    (held : HeldAt from.cache from.id s) (here : IsRow p.cache p.id) (none : from.best ≡ None)
    (between : GoesBetween d q.earliest q.haystack from p k) (inside : k ≤ span_len q) where
  abbrev h : List ℕ
  h = q.haystack

  abbrev total : ℕ
  total = suc (span_len q)

  abbrev state : StateValue
  state = state_after (reader d) h from.at s k

  abbrev units : ℕ
  units = units_read (reader d) q.earliest h total from.at s

  abbrev answer : HalfAnswer
  answer = pass_from (reader d) q.earliest h total from.at s None

  goes : GoesTo d h from p k
  goes = between.0

  row : IsRow from.cache from.id
  row = (held.0, held.1, held.2)

  stays : HasNoStop (reader d) q.earliest h from.at s k
  stays = between.1 s held

  read : AreRead (reader d) h from.at s k
  read = goes.read s (names_held held)

  pub held_here : HeldAt p.cache p.id state
  held_here = row_holds p.cache p.id state d mine here (goes.names s (names_held held))

  alive : is_dead state ≡ false
  alive = let x = held_here in not_dead state (λ e. mine.lives x.0 x.1 (sym x.3 ∙ e))

  pub next_is : state_after (reader d) h p.at state 1 ≡ state_after (reader d) h from.at s (suc k)
  next_is = let one : k + 1 ≡ suc k = omega arith in
      state_there (reader d) h from.at p.at k goes.place s 1 ∙ ap (state_after (reader d) h from.at s) one

  unit_is : unit_of (reader d) h p.at 0 ≡ unit_of (reader d) h from.at k
  unit_is = let none : k + 0 ≡ k = omega arith in
      unit_there (reader d) h from.at p.at k goes.place 0 ∙ ap (unit_of (reader d) h from.at) none

  pub reads_this : k < units
  reads_this = reads_on (reader d) q.earliest h from.at s k total (omega (arith, inside)) read stays alive

  -- what was known in the cache is preserved up to here
  kept_here : GrowsOrClears d from.cache p.cache
  kept_here = ⊎_elim (λ (f : Follows d h from p k). inl f.grows) (λ (x : HasCleared from.cache p.cache). inr x) goes.kept

  -- ---- with an error

  -- the progress at that point
  abbrev Left : CacheValue → MatchErrorKind → Type 0
  Left new e = IsRestReported d q s from.at (Err e) from.cache new

  module _ (new : CacheValue) (m n : ℕ) (x : Leaves d h p new m n 0) where
    pub kept_on : GrowsOrClears d from.cache new
    kept_on = grows_or_clears_trans d from.cache p.cache new made own kept_here x.kept

    free_here : IsLinkedOver d from.cache h from.at from.id units → IsFree d h from p k × IsLinkedOver d p.cache h p.at p.id 1
    free_here linked =
        let more = linked_less d from.cache h from.at from.id units (k + 1) linked (let l = reads_this in omega (arith, l)) in
        let f = goes.free (linked_less d from.cache h from.at from.id (k + 1) k more (omega arith)) in (
          f,
          linked_moved d from.cache p.cache f.moved h p.at p.id 1 (linked_from d from.cache h from.at from.id p.at p.id k goes.place
              f.leads 1 more),
        )

    few : m ≤ from.determinized + units
    few = let l = reads_this in let a = goes.determinized in let b = x.determinized in omega (arith, l, a, b)

    few_names : n ≤ from.inserted + units * most_inserts d
    few_names = sum_to from.inserted p.inserted n k units (most_inserts d) reads_this goes.inserted x.inserted

    changes_here : Changes d (IsMadeAt (reader d) h from.at s units) from.cache new units
    changes_here =
        let l = reads_this in
        changes_on d (IsMadeAt (reader d) h from.at s units) from.cache p.cache k
        (changes_into d (IsMadeAt (reader d) h from.at s k) (IsMadeAt (reader d) h from.at s units)
        (made_within (reader d) h from.at s k units (omega (arith, l))) from.cache p.cache k (goes.changes s (names_held held)))
        new 1 units (omega (arith, l))
        (changes_into d (IsMadeAt (reader d) h p.at state 1) (IsMadeAt (reader d) h from.at s units)
        (λ (b : Bool) (o : Option StateValue) (t : StateValue) (y : IsMadeAt (reader d) h p.at state 1 b o t).
        made_within (reader d) h from.at s (k + 1) units (omega (arith, l)) b o t
        (made_behind (reader d) h from.at p.at k 1 goes.place s read b o t y)) p.cache new 1 (x.changes state (names_held held_here)))

    -- the unit is a quit byte
    pub runs_quit : (b y : ℕ) → unit_at d.nfa.automaton.reverse h p.at ≡ Some b → has d.quits b ≡ true →
        y ≡ index_at d.nfa.automaton.reverse p.at →
        Left new (Quit b y) → RunsOn d q s from new m n (Err (Quit b y))
    runs_quit b y unit is place left =
        let answered : answer ≡ quit b y =
        ends_quit (reader d) q.earliest h from.at s k total b None (omega (arith, inside)) read stays alive
        (sym unit_is ∙ (ap (unit_at d.nfa.automaton.reverse h) (place_zero d.nfa.automaton.reverse p.at) ∙ unit)) is
        ∙ ap (λ (j : ℕ). quit b j) (sym (place ∙ ap (index_at d.nfa.automaton.reverse) goes.place)) in
        record {
          answer = inl (sym (ap reported answered));
          kept = kept_on;
          follows = tt;
          free = λ linked.
              let f = free_here linked in
              let g = x.free f.1 in
              (moved_trans from.cache p.cache new f.0.moved g.0, g.1 ∙ f.0.determinized, g.2 ∙ f.0.inserted, sym (ap reported answered));
          determinized = few;
          inserted = few_names;
          anew = left;
          changes = changes_here;
        }

  -- an allocation failed, or the state after the unit has no room
  module _ (new : CacheValue) (m n : ℕ) (x : FailsOn d h p new m n 0) where
    pub runs_no_memory : Left new NoMemory → RunsOn d q s from new m n (Err NoMemory)
    runs_no_memory left = record {
      answer = inr (inl refl);
      kept = kept_on new m n x.leaves;
      follows = tt;
      free = λ linked. absurd (x.unknown (free_here new m n x.leaves linked).1);
      determinized = few new m n x.leaves;
      inserted = few_names new m n x.leaves;
      anew = left;
      changes = changes_here new m n x.leaves;
    }

    pub runs_gave_up : (y : ℕ) → y ≡ give_up_offset d.nfa.automaton.reverse (span_len q) from.at k →
        ((t : StateValue) → HeldAt p.cache p.id t → has_no_room d new (state_after (reader d) h p.at t 1) ≡ true) →
        (k < span_len q → running_at new.progress ≡ Some y) → is_quit d.quits (unit_at d.nfa.automaton.reverse h p.at) ≡ false →
        Left new (GaveUp y) →
        RunsOn d q s from new m n (Err (GaveUp y))
    runs_gave_up y place lacks runs quiet left = record {
      answer = inr (inr (
        y,
        k,
        refl,
        reads_this,
        place,
        sym (ap (has_no_room d new) next_is) ∙ lacks state held_here,
        runs,
        no_quits quiet,
      ));
      kept = kept_on new m n x.leaves;
      follows = tt;
      free = λ linked. absurd (x.unknown (free_here new m n x.leaves linked).1);
      determinized = few new m n x.leaves;
      inserted = few_names new m n x.leaves;
      anew = left;
      changes = changes_here new m n x.leaves;
    }
      where
        no_quits : is_quit d.quits (unit_at d.nfa.automaton.reverse h p.at) ≡ false → HasNoQuit (reader d) h from.at (suc k)
        no_quits quiet = let one : k + 1 ≡ suc k = omega arith in
            subst (HasNoQuit (reader d) h from.at) one
            (no_quit_on (reader d) h from.at p.at k 1 goes.place (no_quit_read (reader d) h from.at s k read)
            (no_quit_once (reader d) h p.at quiet))

  -- ---- with what was found

  module _ (new : CacheValue) (m n : ℕ) (b : Option HalfFound) (x : EndsWith d q p new m n (pair_of b))
      (last : p.at ≡ last_offset d.nfa.automaton.reverse q → k ≡ span_len q)
      (first : k ≡ came d.nfa.automaton.reverse q p.at) (begun : BeganFirst d.nfa.automaton.reverse q from.cache)
      (same : reports d.nfa.automaton.reverse q ≡ false → p.cache ≡ from.cache) where
    abbrev behind : CacheValue
    behind = as_told p.cache x.behind

    abbrev to : Point
    to = point behind m n (offset_of d.nfa.automaton.reverse p.at 1) x.id (pair_of b)

    one : GoesTo d h p to 1
    one = goes_as_told d h p x.before (point x.behind m n (offset_of d.nfa.automaton.reverse p.at 1) x.id (pair_of b)) 1 x.begun x.goes

    whole : GoesTo d h from to (k + 1)
    whole = goes_on d h made bytes from p to k 1 own mine row goes one

    one_more : k + 1 ≡ suc k
    one_more = omega arith

    all_read : AreRead (reader d) h from.at s (suc k)
    all_read = subst (AreRead (reader d) h from.at s) one_more (whole.read s (names_held held))

    best_is : pair_of b ≡ best_after (reader d) h from.at s None (suc k)
    best_is = whole.best s (names_held held) ∙ (ap (λ (o : Option (ℕ × ℕ)). best_after (reader d) h from.at s o (k + 1)) none
        ∙ ap (best_after (reader d) h from.at s None) one_more)

    moved : IsMoved behind new
    moved = moved_trans behind x.behind new (as_told_back p.cache x.behind) x.ended

    none_of_dead : (t : StateValue) → is_dead t ≡ true → (q.earliest && not (is_empty t.matches)) ≡ false
    none_of_dead t e = ap (λ (w : StateValue). q.earliest && not (is_empty w.matches)) (dead_is t e) ∙ never q.earliest
      where
        never : (y : Bool) → (y && false) ≡ false
        never true = refl
        never false = refl

    no_stop_at : is_dead (state_after (reader d) h from.at s (suc k)) ≡ true → HasNoStop (reader d) q.earliest h from.at s (suc k)
    no_stop_at dead j lt = ⊎_elim
        (λ (l : j < k). stays j l)
        (λ (l : k ≤ j).
        let e : suc j ≡ suc k = omega (arith, l, lt) in
        ap (λ (i : ℕ). q.earliest && not (is_empty (state_after (reader d) h from.at s i).matches)) e
        ∙ none_of_dead (state_after (reader d) h from.at s (suc k)) dead)
        (cases_lt j k)

    abbrev IsEnd : Type 0
    IsEnd = (answer ≡ found (best_after (reader d) h from.at s None (suc k))) × (units ≡ suc k)

    at_last : k ≡ span_len q → IsEnd
    at_last e =
        let same_total : suc k ≡ total = ap suc e in
        let x = ends_last (reader d) q.earliest h from.at s k None all_read stays in (
          sym (ap (λ (j : ℕ). pass_from (reader d) q.earliest h j from.at s None) same_total) ∙ x.0,
          sym (ap (λ (j : ℕ). units_read (reader d) q.earliest h j from.at s) same_total) ∙ x.1,
        )

    by_reason : (stops_after (reader d) q.earliest h p.at state 0 ≡ true) ⊎ (is_dead (state_after (reader d) h p.at state 1) ≡ true) ⊎
        (p.at ≡ last_offset d.nfa.automaton.reverse q) → IsEnd
    by_reason (inl e) = ends_stop (reader d) q.earliest h from.at s k total None (omega (arith, inside)) all_read stays
        (sym (ap (λ (t : StateValue). q.earliest && not (is_empty t.matches)) next_is) ∙ e)
    by_reason (inr (inl e)) =
        let dead = sym (ap is_dead next_is) ∙ e in
        ends_dead (reader d) q.earliest h from.at s (suc k) total None (omega (arith, inside)) all_read (no_stop_at dead) dead
    by_reason (inr (inr e)) = at_last (last e)

    ended : IsEnd
    ended = by_reason (x.why state held_here)

    answered : Ok b ≡ reported answer
    answered = ap (λ (o : Option HalfFound). Ok o) (sym (half_back b) ∙ ap half_of best_is) ∙ sym (ap reported ended.0)

    -- ---- what is left in the cache

    kept_behind : GrowsOrClears d from.cache behind
    kept_behind = ⊎_elim (λ (f : Follows d h from to (k + 1)). inl f.grows) (λ (y : HasCleared from.cache behind). inr y) whole.kept

    units_are : units ≡ k + 1
    units_are = ended.1 ∙ sym one_more

    abbrev is_reverse : Bool
    is_reverse = d.nfa.automaton.reverse

    abbrev ToldBehind : CacheValue → Type 0
    ToldBehind v = progress_of new ≡ progress_past is_reverse (span_len q) (progress_of v) (suc k)

    -- if nothing was cleared, the running search is still the one that began with the scan
    told_here : Follows d h from p k → (ToldBehind from.cache) ⊎ HasCleared p.cache new
    told_here f = ⊎_elim
        (λ (e : progress_of new ≡ progress_past is_reverse (span_len q) (progress_of p.cache) (suc (came is_reverse q p.at))).
        inl (e ∙ (sym (ap (λ (j : ℕ). progress_past is_reverse (span_len q) (progress_of p.cache) (suc j)) first) ∙ progress_from)))
        (λ (y : HasCleared p.cache new). inr y)
        (x.reported (λ t. f.began ∙ begun t))
      where
        progress_from : progress_past is_reverse (span_len q) (progress_of p.cache) (suc k) ≡
            progress_past is_reverse (span_len q) (progress_of from.cache)
            (suc k)
        progress_from = ⊎_elim
            (λ (t : reports is_reverse q ≡ true). told_by_searched is_reverse (span_len q) (suc k) p.cache from.cache f.searched
            (tells_some is_reverse q t))
            (λ (t : reports is_reverse q ≡ false). ap (λ (v : CacheValue). progress_past is_reverse (span_len q) (progress_of v) (suc k))
            (same t))
            (cases_Bool (reports is_reverse q))

    cleared_here : HasCleared p.cache new → GrowsOrClears d from.cache p.cache → HasCleared from.cache new
    cleared_here y (inl g) = subst (λ (c : ℕ). min (c + 1) greatest ≤ new.clears) g.clears y
    cleared_here y (inr z) = cleared_grows d from.cache p.cache new z (inr y)

    cleared_behind : HasCleared from.cache behind → HasCleared from.cache new
    cleared_behind y = subst (λ (c : ℕ). min (from.cache.clears + 1) greatest ≤ c) (sym (grows_moved d behind new moved).clears) y

    follows_new : Follows d h from p k → Follows d h from to (k + 1) → ToldBehind from.cache →
        CacheGrows d from.cache new × IsLinkedOver d new h from.at from.id units ×
        (progress_of new ≡ progress_past is_reverse (span_len q) (progress_of from.cache) units)
    follows_new f g t = (
      grows_trans d from.cache behind new made own g.grows (grows_moved d behind new moved),
      subst (IsLinkedOver d new h from.at from.id) (sym units_are) (linked_moved d behind new moved h from.at from.id (k + 1) g.linked),
      t ∙ sym (ap (progress_past is_reverse (span_len q) (progress_of from.cache)) ended.1),
    )

    followed : Follows d h from p k ⊎ HasCleared from.cache p.cache → Follows d h from to (k + 1) ⊎ HasCleared from.cache behind →
        (CacheGrows d from.cache new × IsLinkedOver d new h from.at from.id units ×
        (progress_of new ≡ progress_past is_reverse (span_len q) (progress_of from.cache) units)) ⊎
        HasCleared from.cache new
    followed f (inr y) = inr (cleared_behind y)
    followed (inr z) g = inr (cleared_behind (cleared_on z one.kept))
      where
        cleared_on : HasCleared from.cache p.cache → Follows d h p to 1 ⊎ HasCleared p.cache behind → HasCleared from.cache behind
        cleared_on z (inl u) = cleared_grows d from.cache p.cache behind z (inl u.grows)
        cleared_on z (inr u) = cleared_grows d from.cache p.cache behind z (inr u)
    followed (inl f) (inl g) = ⊎_elim
        (λ (t : ToldBehind from.cache). inl (follows_new f g t))
        (λ (y : HasCleared p.cache new). inr (cleared_here y (inl f.grows)))
        (told_here f)

    -- what was reported at its end, whether the cache was cleared or not
    abbrev Ended : ℕ → Type 0
    Ended all = ((progress_of new ≡ progress_past is_reverse (span_len q) (progress_of from.cache) all) ×
        (new.clears ≡ from.cache.clears)) ⊎
        (HasCleared from.cache new × RestAnew is_reverse q all (progress_of new))

    pub runs_found : Ended (suc k) → RunsOn d q s from new m n (Ok b)
    runs_found reported = record {
      answer = inl answered;
      kept = grows_or_clears_trans d from.cache behind new made own kept_behind (inl (grows_moved d behind new moved));
      follows = followed goes.kept whole.kept;
      free = λ linked.
          let f = whole.free (subst (IsLinkedOver d from.cache h from.at from.id) units_are linked) in
          (moved_trans from.cache behind new f.moved moved, f.determinized, f.inserted, answered);
      determinized = subst (λ (u : ℕ). m ≤ from.determinized + u) (sym units_are) whole.determinized;
      inserted = subst (λ (u : ℕ). n ≤ from.inserted + u * most_inserts d) (sym units_are) whole.inserted;
      anew = subst Ended (sym ended.1) reported;
      changes = subst (λ (u : ℕ). Changes d (IsMadeAt (reader d) h from.at s u) from.cache new u) (sym units_are)
          (changes_moved d (IsMadeAt (reader d) h from.at s (k + 1)) from.cache behind new (k + 1) moved
          (whole.changes s (names_held held)));
    }
