-- The first call of an overlapping search: the input is done, or its start fails or leaves nothing, or it reads on.
use Rattle.std.proofs.Common.{◌≡◌, ◌≢◌, ◌⊎◌, ℕ, suc, ◌+◌, ◌*◌, ◌<◌, ◌≤◌, ◌&&◌, Bool, true, false, Option, Some, None, if◌then◌else◌, refl}
use Rattle.std.proofs.Common.{sym, ap, ◌∙◌, subst, inl, inr, ⊎_elim, arith}
use Rattle.std.specs.Prelude.{Result, Ok, Err, min, nat_le, IsTrue, ◌↔◌}
use Rattle.std.proofs.lemmas.Bool.{le-leb, lt-leb}
use Rattle.std.proofs.Math.Nat.{min-eq_left}
use Rattle.search_types.specs.declared.match_error.MatchErrorKind.{MatchErrorKind}
use Rattle.search_types.specs.declared.match_error.MatchErrorKind.TheVariants.{GaveUp, NoMemory}
use Rattle.search_types.specs.Inputs.{Search}
use Rattle.search_types.specs.Modes.{is_supported}
use Rattle.determinize_core.specs.States.{StateValue}
use Rattle.lazy_dfa.specs.Caches.{CacheValue, IsCacheOf, HeldAt, greatest, distance, progress_len, moved_to, has_no_room}
use Rattle.lazy_dfa.specs.declared.overlapping.overlapping_state.OverlappingPosition.TheVariants.{Fresh}
use Rattle.lazy_dfa.specs.declared.start_error.StartError.{StartError}
use Rattle.lazy_dfa.specs.Dfas.{Dfa, IsDfa, reader}
use Rattle.lazy_dfa.specs.Ids.{has_tag, dead_tag}
use Rattle.lazy_dfa.specs.Linked.{CacheGrows, HasCleared, IsMoved}
use Rattle.lazy_dfa.specs.MadeScans.{span_len}
use Rattle.lazy_dfa.specs.Scans.{is_dead, first_value, scan}
use Rattle.lazy_dfa.specs.ScanLaws.{HasNoQuit}
use Rattle.lazy_dfa.specs.HalfSearches.{first_offset}
use Rattle.lazy_dfa.specs.HalfSearchLaws.{begins_at}
use Rattle.lazy_dfa.specs.SearchAnswers.{reported, ProgressValue, progress_of, scan_distance}
use Rattle.lazy_dfa.specs.ScanOffsets.{came, left_at, scan_start, StartsScan}
use Rattle.lazy_dfa.specs.StartCalls.{rejected_start}
use Rattle.lazy_dfa.specs.Steps.{Grew, WasCleared, most_inserts}
use Rattle.lazy_dfa.specs.Overlapping.{nothing_left, refused, whole_rest, rest_of, OverlappingValue}
use Rattle.lazy_dfa.specs.OverlappingAnswers.{reads_on, units_there, call_units, call_starts, ReportsNext, at_start, AnswersOverlapping}
use Rattle.lazy_dfa.specs.OverlappingAnswers.{failed_by}
use Rattle.lazy_dfa.specs.OverlappingAnswers.{progress_by_call, value_before, ReadsOn, MakesCall, StartsQuietly, HasReadQuietly}
use Rattle.lazy_dfa.specs.Changes.{Changes, IsMadeFirst}
use Rattle.lazy_dfa.specs.StartCalls.{StartAdds}
use Rattle.lazy_dfa.specs.OverlappingAnswers.{IsMadeOnCall}
use Rattle.lazy_dfa.specs.OverlappingAnswers.{call_made}
use Rattle.lazy_dfa.proofs.CacheChanges.ChangesLemmas.{changes_more, changes_moved, start_changes}
use Rattle.lazy_dfa.specs.OverlappingAnswers.{left_at_start, anew_at_start, fails_behind_start}
use Rattle.lazy_dfa.specs.AnewProgress.{IsFresh}
use Rattle.lazy_dfa.proofs.CacheChanges.LinkedLemmas.{grows_trans, grew_grows, has_cleared, start_grows_of, cleared_grows}
use Rattle.lazy_dfa.proofs.CacheChanges.LinkedLemmas.{grows_or_clears_trans}
use Rattle.lazy_dfa.proofs.CacheChanges.LinkedLemmas.{grows_moved}
use Rattle.lazy_dfa.proofs.Courses.SearchEndLemmas.{not_done, is_over}
use Rattle.lazy_dfa.proofs.OverlappingWalks.WalkLeftLemmas.{begun_rest, begun_units, begun_value, dead_rest, dead_units, whole_from}
use Rattle.lazy_dfa.proofs.OverlappingWalks.WalkLeftLemmas.{done_left}
use Rattle.lazy_dfa.proofs.OverlappingWalks.WalkLeftLemmas.{refused_whole, fit_whole}
use Rattle.lazy_dfa.proofs.OverlappingWalks.WalkQuitLemmas.{no_quit_yet, came_first}
use Rattle.lazy_dfa.proofs.Courses.WholePassLemmas.{min_twice, dead_named, row_named, same_told, fresh_start, refused_first}
use Rattle.lazy_dfa.proofs.OverlappingWalks.WalkCallLemmas.{fine, failure, ended, tells_refusal, tells_none, still_call, told_with}
use Rattle.lazy_dfa.proofs.OverlappingWalks.WalkCallLemmas.{makes_on, MakesIts}

-- an input that is done
pub done_call : (d : Dfa) (q : Search) (v : CacheValue) (m n : ℕ) → nat_le q.start q.end ≡ false →
    MakesCall d q v v m m n n Fresh ended fine
done_call d q v m n done = still_call d q v m n Fresh ended fine (tells_none (reader d) q Fresh (done_left d q done))
    (ap (λ (b : Bool). b && is_supported (reader d).starts_for_each_pattern q.anchored) done) tt tt (λ none. refl) (λ quiet. tt) tt

-- ---- starts

pub is_begun : (b : Bool) (s e : ℕ) → (IsTrue b ↔ (e < s)) → b ≡ false → nat_le s e ≡ true
is_begun b s e f is = le-leb s e (not_done b s e f is)

pub is_done : (b : Bool) (s e : ℕ) → (IsTrue b ↔ (e < s)) → b ≡ true → nat_le s e ≡ false
is_done b s e f is = lt-leb s e (is_over b s e f is)

one_start : (q : Search) → nat_le q.start q.end ≡ true → call_starts q Fresh ≡ 1
one_start q e = ap (λ (b : Bool). if b then 1 else 0) e

no_start : {P : Type 0} (q : Search) → nat_le q.start q.end ≡ true → call_starts q Fresh ≡ 0 → P
no_start q e none = let one = one_start q e in absurd (omega (arith, one, none))

few_at_start : (m1 m k x : ℕ) → x ≡ 1 → m ≤ m1 + 1 → m ≤ m1 + (x + k)
few_at_start m1 m k x is a = omega (arith, is, a)

few_put_at_start : (n1 n k x most : ℕ) → x ≡ 1 → n ≤ n1 + most → n ≤ n1 + (x + k) * most
few_put_at_start n1 n k x most is a = subst (λ (u : ℕ). n ≤ n1 + (u + k) * most) (sym is) (omega (arith, a))

-- what a start changes
start_changes_so : (d : Dfa) (q : Search) → nat_le q.start q.end ≡ true → (old new : CacheValue) → IsCacheOf d old →
    StartAdds d old new (scan_start d q) → Changes d (IsMadeOnCall d q Fresh) old new (call_starts q Fresh)
start_changes_so d q begun old new own adds =
    subst (Changes d (IsMadeOnCall d q Fresh) old new) (sym (one_start q begun))
    (start_changes d q.anchored q.haystack (begins_at (reader d) q) (IsMadeOnCall d q Fresh)
    (λ (b : Bool) (o : Option StateValue) (s : StateValue) (x : IsMadeFirst d q.anchored q.haystack (begins_at (reader d) q) b o s).
    inl (record { fresh = refl; first = x })) old new own adds)

-- what a start changes if the call reads nothing
first_changes : (d : Dfa) (q : Search) → nat_le q.start q.end ≡ true → (old new : CacheValue) → IsCacheOf d old →
    StartAdds d old new (scan_start d q) → Changes d (IsMadeOnCall d q Fresh) old new (call_made (reader d) q Fresh)
first_changes d q begun old new own adds =
    changes_more d (IsMadeOnCall d q Fresh) old new (call_starts q Fresh) (call_made (reader d) q Fresh) (omega arith)
    (start_changes_so d q begun old new own adds)

-- the start fails
module _ (d : Dfa) (q : Search) (old new : CacheValue) (m1 m2 n1 n2 : ℕ) (begun : nat_le q.start q.end ≡ true) (e : MatchErrorKind)
    (start : StartsScan d q old new m1 m2 n1 n2 (Err e)) (own : IsCacheOf d old) where
  abbrev begins : ℕ
  begins = begins_at (reader d) q

  abbrev IsTold : Type 0
  IsTold = Err e ≡ reported (scan (reader d) q.anchored q.earliest q.haystack (span_len q) begins)

  told_refused : (o : Option StartError) → rejected_start d (scan_start d q) ≡ o → rejected_start d (scan_start d q) ≢ None → IsTold →
      ReportsNext (reader d) q Fresh (failed_by e) (failure e)
  told_refused None is some t = absurd (some is)
  told_refused (Some x) is some t = tells_refusal (reader d) q Fresh (refused e) e (refused_whole d q begun e x is t) refl refl

  answered_start : ((rejected_start d (scan_start d q) ≢ None) × IsTold) ⊎ (e ≡ NoMemory) ⊎
      ((e ≡ GaveUp begins) × (has_no_room d new (first_value (reader d) q.anchored q.haystack begins) ≡ true) ×
      (rejected_start d (scan_start d q) ≡ None)) →
      AnswersOverlapping d new q Fresh (failed_by e) (failure e)
  answered_start (inl x) = inl (told_refused (rejected_start d (scan_start d q)) refl x.0 x.1)
  answered_start (inr (inl lacks)) = inr (inl (ap failure lacks))
  answered_start (inr (inr g)) = inr (inr (begins, ap failure g.0, at_start refl refl g.1 g.2))

  pub refused_call : MakesCall d q old new m1 m2 n1 n2 Fresh (failed_by e) (failure e)
  refused_call = record {
    answer = answered_start start.err;
    walk = tt;
    failed = refl;
    kept = start_grows_of d old new start.kept;
    reported = tt;
    ends = tt;
    still = λ none quiet. no_start q begun none;
    quiet = λ none quiet. no_start q begun none;
    determinized = few_at_start m1 m2 (call_units (reader d) q Fresh) (call_starts q Fresh) (one_start q begun) start.determinized;
    inserted = few_put_at_start n1 n2 (call_units (reader d) q Fresh) (call_starts q Fresh) (most_inserts d)
        (one_start q begun) start.inserted;
    quits = λ quiet. tt;
    changes = first_changes d q begun old new own start.adds;
    anew = ⊎_elim
        (λ (g : Grew d old new). inl (
          left_at_start refl (refused_first d q old new m1 m2 n1 n2 e start own) (same_told d old new g),
          g.clears,
        ))
        (λ (w : WasCleared old new 1). inr (
          has_cleared old new 1 w,
          fails_behind_start refl (progress_of new) (fresh_start old new w)
              (left_at_start refl (refused_first d q old new m1 m2 n1 n2 e start own) refl),
        ))
        start.kept;
  }

abbrev told_short : ℕ → ProgressValue
told_short n = record { searched = n; progress = None }

-- a search that begins at an index and ends there
pub dead_moved : (mid begun new : CacheValue) (at : ℕ) →
    begun ≡ record mid {
      searched = min (mid.searched + progress_len mid.progress) greatest;
      progress = Some (record { start = at; at = at });
    } →
    new ≡ record begun { searched = min (begun.searched + progress_len (moved_to at begun.progress)) greatest; progress = None } →
    IsMoved mid new × (progress_of new ≡ told_with (mid.searched + progress_len mid.progress) 0)
dead_moved mid begun new at e f =
    let is = f ∙ ap (λ (x : CacheValue). record x {
      searched = min (x.searched + progress_len (moved_to at x.progress)) greatest;
      progress = None;
    }) e in (
      subst (λ (x : CacheValue). IsMoved mid x) (sym is) refl,
      ap progress_of is ∙ ap told_short (nowhere (mid.searched + progress_len mid.progress) at),
    )
  where
    nowhere : (x at : ℕ) → min (min x greatest + distance at at) greatest ≡ min (x + 0) greatest
    nowhere x at = min_twice x (distance at at) greatest ∙ ap (λ (k : ℕ). min (x + k) greatest) (omega arith)

-- the start returns an ID
module _ (d : Dfa) (q : Search) (old mid : CacheValue) (m1 m n1 n id : ℕ) (begun : nat_le q.start q.end ≡ true)
    (made : IsDfa d) (own : IsCacheOf d old) (mine : IsCacheOf d mid)
    (start : StartsScan d q old mid m1 m n1 n (Ok id)) where
  abbrev from : ℕ
  from = begins_at (reader d) q

  abbrev first_state : StateValue
  first_state = first_value (reader d) q.anchored q.haystack from

  fits : (is_supported (reader d).starts_for_each_pattern q.anchored ≡ true) × (whole_rest (reader d) q ≡ whole_from d q)
  fits = fit_whole d q begun start.start.0

  reads_first : reads_on (reader d) q Fresh ≡ true
  reads_first = ap (λ (b : Bool). b && is_supported (reader d).starts_for_each_pattern q.anchored) begun ∙ fits.0

  so_far : (CacheGrows d old mid × (progress_of mid ≡ progress_of old)) ⊎ HasCleared old mid
  so_far = ⊎_elim
      (λ (g : Grew d old mid). inl (grew_grows d old mid g, same_told d old mid g))
      (λ (c : WasCleared old mid 1). inr (has_cleared old mid 1 c))
      start.kept

  few_starts : m ≤ m1 + call_starts q Fresh
  few_starts = subst (λ (k : ℕ). m ≤ m1 + k) (sym (one_start q begun)) start.determinized

  few_starts_put : n ≤ n1 + call_starts q Fresh * most_inserts d
  few_starts_put = subst (λ (k : ℕ). n ≤ n1 + k * most_inserts d) (sym (one_start q begun)) (let l = start.inserted in omega (arith, l))

  -- the state of that ID is dead
  module _ (gone : has_tag dead_tag id ≡ true) where
    is_gone : is_dead first_state ≡ true
    is_gone = dead_named mid id first_state mine.shape gone start.start.1

    no_units : units_there (reader d) q Fresh ≡ 0
    no_units = dead_units (reader d) q.haystack (suc (span_len q)) from first_state is_gone

    none_read : call_units (reader d) q Fresh ≡ 0
    none_read = ap (λ (b : Bool). if b then units_there (reader d) q Fresh else 0) reads_first ∙ no_units

    left_none : rest_of (reader d) q Fresh ≡ nothing_left
    left_none = fits.1 ∙ dead_rest (reader d) q.haystack (suc (span_len q)) from first_state is_gone

    abbrev told_after_start : ProgressValue → ℕ → ProgressValue
    told_after_start t k =
        told_with (t.searched + progress_len t.progress) (scan_distance d.nfa.automaton.reverse
        (left_at d.nfa.automaton.reverse q from) k)

    no_distance : (is_reverse : Bool) (k : ℕ) → scan_distance is_reverse k 0 ≡ 0
    no_distance false k = refl
    no_distance true k = min-eq_left (omega arith)

    told_dead : (t : ProgressValue) → progress_by_call (reader d) q Fresh t ≡ told_with (t.searched + progress_len t.progress) 0
    told_dead t =
        ap (λ (b : Bool). if b then told_after_start t (call_units (reader d) q Fresh) else t) reads_first
        ∙ (ap (told_after_start t) none_read
        ∙ ap (told_with (t.searched + progress_len t.progress)) (no_distance d.nfa.automaton.reverse
        (left_at d.nfa.automaton.reverse q from)))

    pub dead_call : (new : CacheValue) → IsMoved mid new → progress_of new ≡ told_with (mid.searched + progress_len mid.progress) 0 →
        MakesCall d q old new m1 m n1 n Fresh ended fine
    dead_call new moved is = record {
      answer = inl (tells_none (reader d) q Fresh left_none);
      walk = tt;
      failed = tt;
      kept = grows_or_clears_trans d old mid new made own (start_grows_of d old mid start.kept) (inl still_there);
      reported = ⊎_elim
          (λ (g : CacheGrows d old mid × (progress_of mid ≡ progress_of old)).
          inl (
            grows_trans d old mid new made own g.0 still_there,
            is ∙ (ap (λ (t : ProgressValue). told_with (t.searched + progress_len t.progress) 0) g.1 ∙ sym (told_dead (progress_of old))),
          ))
          (λ (c : HasCleared old mid). inr (cleared_grows d old mid new c (inl still_there)))
          so_far;
      ends = λ none. refl;
      still = λ none quiet. no_start q begun none;
      quiet = λ none quiet. no_start q begun none;
      determinized = few_at_start m1 m (call_units (reader d) q Fresh) (call_starts q Fresh) (one_start q begun) start.determinized;
      inserted = few_put_at_start n1 n (call_units (reader d) q Fresh) (call_starts q Fresh) (most_inserts d)
          (one_start q begun) start.inserted;
      quits = λ quiet. tt;
      changes = changes_moved d (IsMadeOnCall d q Fresh) old mid new (call_made (reader d) q Fresh) moved
          (first_changes d q begun old mid own start.adds);
      anew = ⊎_elim
          (λ (g : Grew d old mid). inl (
            is ∙ (ap (λ (t : ProgressValue). told_with (t.searched + progress_len t.progress) 0) (same_told d old mid g)
                ∙ sym (told_dead (progress_of old))),
            still_there.clears ∙ g.clears,
          ))
          (λ (c : WasCleared old mid 1). inr (
            cleared_grows d old mid new (has_cleared old mid 1 c) (inl still_there),
            anew_at_start refl (progress_of mid) (fresh_start old mid c) (is ∙ sym (told_dead (progress_of mid))),
          ))
          start.kept;
    }
      where
        still_there : CacheGrows d mid new
        still_there = grows_moved d mid new moved

  -- what the start reports; it may have cleared the cache
  told_first : ((progress_of mid ≡ progress_of old) × (mid.clears ≡ old.clears)) ⊎
      (HasCleared old mid × ((Fresh ≡ Fresh) × IsFresh (progress_of mid)))
  told_first = ⊎_elim
      (λ (g : Grew d old mid). inl (same_told d old mid g, g.clears))
      (λ (c : WasCleared old mid 1). inr (has_cleared old mid 1 c, (refl, fresh_start old mid c)))
      start.kept

  -- nothing is read yet
  begins_quietly : HasReadQuietly d q Fresh → StartsQuietly d q (came d.nfa.automaton.reverse q from)
  begins_quietly quiet = (
    start.start.0,
    subst (HasNoQuit (reader d) q.haystack from) (sym (came_first d.nfa.automaton.reverse q)) (no_quit_yet (reader d) q.haystack from),
  )

  -- the state isn't dead, and the search reads on
  module _ (is_reverse : Bool) (is : is_reverse ≡ d.nfa.automaton.reverse) where
    pub begins_held : has_tag dead_tag id ≡ false → HeldAt mid id (value_before (reader d) q (first_offset is_reverse q.start q.end))
    begins_held alive = subst (λ (b : Bool). HeldAt mid id (value_before (reader d) q (first_offset b q.start q.end))) (sym is)
        (subst (HeldAt mid id) (sym (begun_value (reader d) q)) (row_named d mid mid id first_state mine.shape refl alive start.start.1))

    pub begins_walk : (new : CacheValue) (m2 n2 : ℕ) (result : Result OverlappingValue MatchErrorKind) →
        ReadsOn d q (first_offset is_reverse q.start q.end) mid new m m2 n n2 result → MakesIts d q Fresh old new m1 m2 n1 n2 result
    begins_walk new m2 n2 result x =
        makes_on d q Fresh old mid new m1 m m2 n1 n n2 made own reads_first (fits.1 ∙ begun_rest (reader d) q) (begun_units (reader d) q)
        so_far few_starts few_starts_put (λ fresh. start.start.0) begins_quietly told_first
        (start_changes_so d q begun old mid own start.adds) result
        (subst (λ (b : Bool). ReadsOn d q (first_offset b q.start q.end) mid new m m2 n n2 result) is
        x)
