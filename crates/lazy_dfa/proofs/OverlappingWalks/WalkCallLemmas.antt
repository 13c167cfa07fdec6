-- What a call of an overlapping search has done: a call that reads nothing, and one that reads on.
use Rattle.std.proofs.Common.{◌≡◌, ◌⊎◌, ℕ, ◌+◌, ◌-◌, ◌*◌, ◌<◌, ◌≤◌, ◌==◌, ◌||◌, not, Bool, true, false, List, ◌∷◌, Option, Some, None}
use Rattle.std.proofs.Common.{if◌then◌else◌, refl, sym}
use Rattle.std.proofs.Common.{ap, ◌∙◌, subst, inl, inr, ⊎_elim, arith, true≢false, []}
use Rattle.std.specs.Prelude.{Result, Ok, Err, IfOk, IfErr, OnOk, min, ⊤}
use Rattle.search_types.specs.declared.match_error.MatchErrorKind.{MatchErrorKind}
use Rattle.search_types.specs.declared.match_error.MatchErrorKind.TheVariants.{GaveUp, NoMemory}
use Rattle.search_types.specs.Inputs.{Search}
use Rattle.nfa_core.specs.Places.{first}
use Rattle.lazy_dfa.specs.Caches.{CacheValue, IsCacheOf, greatest, progress_len}
use Rattle.lazy_dfa.specs.declared.overlapping.overlapping_state.OverlappingPosition.{OverlappingPosition}
use Rattle.lazy_dfa.specs.declared.overlapping.overlapping_state.OverlappingPosition.TheVariants.{Fresh, Ended, Failed, Stopped}
use Rattle.lazy_dfa.specs.Dfas.{Dfa, IsDfa, reader}
use Rattle.lazy_dfa.specs.Linked.{CacheGrows, HasCleared, GrowsOrClears}
use Rattle.lazy_dfa.specs.Readers.{Reader}
use Rattle.lazy_dfa.specs.SearchAnswers.{half_of, ProgressValue, progress_of, scan_distance}
use Rattle.lazy_dfa.specs.ScanOffsets.{came, left_at, last_offset, scan_start}
use Rattle.lazy_dfa.specs.StartCalls.{rejected_start}
use Rattle.lazy_dfa.specs.Steps.{most_inserts}
use Rattle.lazy_dfa.specs.Overlapping.{Rest, nothing_left, refused, others, rest_of, CanContinue, OverlappingValue}
use Rattle.lazy_dfa.specs.OverlappingAnswers.{lists_more, stop_after, next_index}
use Rattle.lazy_dfa.specs.OverlappingAnswers.{reads_on, call_offset, units_there, call_units, call_starts, result_left, ReportsNext}
use Rattle.lazy_dfa.specs.OverlappingAnswers.{GivesUpOn}
use Rattle.lazy_dfa.specs.OverlappingAnswers.{at_unit}
use Rattle.lazy_dfa.specs.OverlappingAnswers.{AnswersOverlapping, failed_by, progress_by_call, rest_at, units_at, progress_by_reading}
use Rattle.lazy_dfa.specs.OverlappingAnswers.{GivesUpFrom}
use Rattle.lazy_dfa.specs.OverlappingAnswers.{ReadsOn}
use Rattle.lazy_dfa.specs.OverlappingAnswers.{MakesCall}
use Rattle.lazy_dfa.specs.Changes.{Changes, unchanged, IsMadeAt}
use Rattle.lazy_dfa.specs.OverlappingAnswers.{call_made, IsMadeOnCall}
use Rattle.lazy_dfa.specs.OverlappingAnswers.{value_before}
use Rattle.determinize_core.specs.States.{StateValue}
use Rattle.lazy_dfa.proofs.CacheChanges.ChangesLemmas.{changes_into, changes_on}
use Rattle.lazy_dfa.specs.OverlappingAnswers.{StartsQuietly, HasReadQuietly, overlapping_done, overlapping_left, FailsThere, LeavesCall}
use Rattle.lazy_dfa.specs.OverlappingAnswers.{left_failed}
use Rattle.lazy_dfa.specs.OverlappingAnswers.{left_at_unit, ReportsCallAnew, anew_at_start, anew_at, FailsCallAnew, fails_behind_start}
use Rattle.lazy_dfa.specs.OverlappingAnswers.{fails_behind, IsCallReported, IsReadReported}
use Rattle.lazy_dfa.specs.LeftProgress.{is_quit_error}
use Rattle.lazy_dfa.specs.AnewProgress.{IsFresh}
use Rattle.lazy_dfa.specs.ScanLaws.{HasNoQuit}
use Rattle.nfa_core.specs.Ways.{offset_of}
use Rattle.lazy_dfa.proofs.CacheChanges.LinkedLemmas.{grows_refl, grows_trans, cleared_grows, grows_or_clears_trans}

abbrev pub fine : Result ⊤ MatchErrorKind
fine = Ok tt

abbrev pub failure : MatchErrorKind → Result ⊤ MatchErrorKind
failure e = Err e

abbrev pub ended : OverlappingValue
ended = record { found = None; walk = Ended }

-- ---- what is reported

-- if an error comes next, nothing else is left
refusal_alone : (ends : List (ℕ × ℕ)) (rejection : Option MatchErrorKind) (e : MatchErrorKind) → result_left ends rejection ≡ failure e →
    (ends ≡ []) × (rejection ≡ Some e)
refusal_alone (x ∷ xs) rejection e is = let never : true ≡ false = cc in absurd (true≢false never)
refusal_alone [] None e is = let never : true ≡ false = cc in absurd (true≢false never)
refusal_alone [] (Some y) e is = (refl, cc)

pub tells_refusal : (r : Reader) (q : Search) (w : OverlappingPosition) (rest : Rest) (e : MatchErrorKind) →
    rest_of r q w ≡ rest → rest.ends ≡ [] → rest.rejection ≡ Some e → ReportsNext r q w (failed_by e) (failure e)
tells_refusal r q w rest e is none some = let left : rest_of r q w ≡ refused e = is ∙ made rest e none some in record {
  answer = sym (ap (λ (x : Rest). result_left x.ends x.rejection) left);
  found = sym (ap (λ (x : Rest). half_of (first x.ends)) left);
  left = sym (ap others left);
  stops = tt;
}
  where
    made : (rest : Rest) (e : MatchErrorKind) → rest.ends ≡ [] → rest.rejection ≡ Some e → rest ≡ refused e
    made rest e none some = λ i. record { ends = none i; rejection = some i }

pub tells_none : (r : Reader) (q : Search) (w : OverlappingPosition) → rest_of r q w ≡ nothing_left → ReportsNext r q w ended fine
tells_none r q w is = record {
  answer = sym (ap (λ (x : Rest). result_left x.ends x.rejection) is);
  found = sym (ap (λ (x : Rest). half_of (first x.ends)) is);
  left = sym (ap others is);
  stops = sym (ap (λ (x : Rest). stop_after (next_index r q w) (first x.ends)) is);
}

-- ---- calls that read nothing

on_ok : {A B X : Type 0} (r : Result A B) → X → OnOk r X
on_ok (Ok a) x = x
on_ok (Err e) x = tt

-- a call that leaves the cache as it was
module _ (d : Dfa) (q : Search) (v : CacheValue) (m n : ℕ) (w : OverlappingPosition) (after : OverlappingValue) (result : Result ⊤
    MatchErrorKind)
    (reports : ReportsNext (reader d) q w after result) (silent : reads_on (reader d) q w ≡ false) where
  pub still_call : CanContinue d v q after.walk → IfErr result (λ e. after ≡ failed_by e) →
      OnOk result (after.found ≡ None → after.walk ≡ Ended) →
      (HasReadQuietly d q w → HasReadQuietly d q after.walk) → IfErr result (λ e. w ≡ Failed e) →
      MakesCall d q v v m m n n w after result
  still_call walk failed ends quits was_failed = record {
    answer = inl reports;
    walk = walk;
    failed = failed;
    kept = inl (grows_refl d v);
    reported = on_ok result (inl (grows_refl d v, sym same_told));
    ends = ends;
    still = λ none quiet. reports;
    quiet = λ none quiet. (refl, refl, refl);
    determinized = omega arith;
    inserted = omega arith;
    quits = quits;
    changes = unchanged v (call_made (reader d) q w) refl;
    anew = none_told result was_failed;
  }
    where
      same_told : progress_by_call (reader d) q w (progress_of v) ≡ progress_of v
      same_told = ap (λ (b : Bool). if b then record {
        searched = min (v.searched + progress_len v.progress +
            scan_distance d.nfa.automaton.reverse (left_at d.nfa.automaton.reverse q (call_offset (reader d) q w))
            (call_units (reader d) q w)) greatest;
        progress = None;
      } else progress_of v) silent

      none_told : (x : Result ⊤ MatchErrorKind) → IfErr x (λ e. w ≡ Failed e) → IsCallReported d q w x v v
      none_told (Ok u) was = inl (sym same_told, refl)
      none_told (Err e) was = inl (left_failed was refl, refl)

pub ended_call : (d : Dfa) (q : Search) (v : CacheValue) (m n : ℕ) → MakesCall d q v v m m n n Ended ended fine
ended_call d q v m n = still_call d q v m n Ended ended fine (tells_none (reader d) q Ended refl) refl tt tt (λ none. refl)
    (λ quiet. tt) tt

pub failed_call : (d : Dfa) (q : Search) (v : CacheValue) (m n : ℕ) (e : MatchErrorKind) →
    MakesCall d q v v m m n n (Failed e) (failed_by e) (failure e)
failed_call d q v m n e =
    still_call d q v m n (Failed e) (failed_by e) (failure e) (tells_refusal (reader d) q (Failed e) (refused e) e refl refl refl) refl tt
    refl tt (λ quiet. tt) refl

-- ---- calls that read on

-- a call that reads on begins with the first end of a state's list
index_on : (r : Reader) (q : Search) (w : OverlappingPosition) → reads_on r q w ≡ true → next_index r q w ≡ 1
index_on r q Fresh reads = refl
index_on r q Ended reads = refl
index_on r q (Failed e) reads = refl
index_on r q (Stopped stop) reads = no_more (lists_more r q stop) (stop.at == last_offset r.automaton.reverse q) reads
  where
    no_more : (b c : Bool) → not (b || c) ≡ true → (if b then stop.index + 1 else 1) ≡ 1
    no_more true c e = absurd (true≢false (sym e))
    no_more false c e = refl

abbrev pub told_with : ℕ → ℕ → ProgressValue
told_with before k = record { searched = min (before + k) greatest; progress = None }

few_more : (m1 m m2 x y z : ℕ) → z ≡ y → m ≤ m1 + x → m2 ≤ m + y → m2 ≤ m1 + (x + z)
few_more m1 m m2 x y z is a b = omega (arith, is, a, b)

few_more_put : (n1 n n2 x y z k : ℕ) → z ≡ y → n ≤ n1 + x * k → n2 ≤ n + y * k → n2 ≤ n1 + (x + z) * k
few_more_put n1 n n2 x y z k is a b = subst (λ (u : ℕ). n2 ≤ n1 + (x + u) * k) (sym is) (omega (arith, a, b))

module _ (d : Dfa) (q : Search) (w : OverlappingPosition) (old mid new : CacheValue) (m1 m m2 n1 n n2 : ℕ) (made : IsDfa d) (own :
    IsCacheOf d old)
    (reads : reads_on (reader d) q w ≡ true)
    (left : rest_of (reader d) q w ≡ rest_at (reader d) q (call_offset (reader d) q w))
    (units : units_there (reader d) q w ≡ units_at (reader d) q (call_offset (reader d) q w))
    (before : (CacheGrows d old mid × (progress_of mid ≡ progress_of old)) ⊎ HasCleared old mid)
    (few : m ≤ m1 + call_starts q w) (few_put : n ≤ n1 + call_starts q w * most_inserts d)
    (free : w ≡ Fresh → rejected_start d (scan_start d q) ≡ None)
    (past : HasReadQuietly d q w → StartsQuietly d q (came d.nfa.automaton.reverse q (call_offset (reader d) q w)))
    (told_mid : ((progress_of mid ≡ progress_of old) × (mid.clears ≡ old.clears)) ⊎
    (HasCleared old mid × ((w ≡ Fresh) × IsFresh (progress_of mid))))
    (begun : Changes d (IsMadeOnCall d q w) old mid (call_starts q w)) where
  abbrev r : Reader
  r = reader d

  abbrev at : ℕ
  at = call_offset r q w

  abbrev rest : Rest
  rest = rest_at r q at

  same_units : call_units r q w ≡ units_at r q at
  same_units = ap (λ (b : Bool). if b then units_there r q w else 0) reads ∙ units

  changes_so : Changes d (IsMadeAt r q.haystack at (value_before r q at) (units_at r q at)) mid new (units_at r q at) →
      Changes d (IsMadeOnCall d q w) old new (call_made r q w)
  changes_so c =
      changes_on d (IsMadeOnCall d q w) old mid (call_starts q w) begun new (call_units r q w) (call_made r q w) (omega arith)
      (changes_into d (IsMadeAt r q.haystack at (value_before r q at) (call_units r q w)) (IsMadeOnCall d q w)
      (λ (b : Bool) (o : Option StateValue) (s : StateValue)
      (y : IsMadeAt r q.haystack at (value_before r q at) (call_units r q w) b o s). inr y)
      mid new (call_units r q w)
      (subst (λ (k : ℕ). Changes d (IsMadeAt r q.haystack at (value_before r q at) k) mid new k) (sym same_units) c))

  gives_up : (x : ℕ) → GivesUpFrom d new q at x → GivesUpOn d new q w x
  gives_up x g = at_unit g.unit (subst (λ (k : ℕ). g.unit < k) (sym same_units) g.read) g.place g.lacks g.running free g.quits

  abbrev progress_after : ℕ → ProgressValue
  progress_after k =
      told_with (old.searched + progress_len old.progress) (scan_distance d.nfa.automaton.reverse (left_at d.nfa.automaton.reverse q at) k)

  told_so : progress_of mid ≡ progress_of old → progress_of new ≡ progress_by_reading r q at (progress_of mid) →
      progress_of new ≡ progress_by_call r q w (progress_of old)
  told_so e f =
      f ∙ ap (progress_by_reading r q at) e
      ∙ sym (ap (λ (b : Bool). if b then progress_after (call_units r q w) else progress_of old) reads ∙ ap progress_after same_units)

  abbrev Followed : CacheValue → ProgressValue → Type 0
  Followed v t = (CacheGrows d v new × (progress_of new ≡ t)) ⊎ HasCleared v new

  kept_on : GrowsOrClears d mid new → GrowsOrClears d old new
  kept_on kept = ⊎_elim
      (λ (g : CacheGrows d old mid × (progress_of mid ≡ progress_of old)). grows_or_clears_trans d old mid new made own (inl g.0) kept)
      (λ (c : HasCleared old mid). inr (cleared_grows d old mid new c kept))
      before

  followed : GrowsOrClears d mid new → Followed mid (progress_by_reading r q at (progress_of mid)) →
      Followed old (progress_by_call r q w (progress_of old))
  followed kept f = ⊎_elim
      (λ (g : CacheGrows d old mid × (progress_of mid ≡ progress_of old)). ⊎_elim
      (λ (h : CacheGrows d mid new × (progress_of new ≡ progress_by_reading r q at (progress_of mid))).
      inl (grows_trans d old mid new made own g.0 h.0, told_so g.1 h.1))
      (λ (c : HasCleared mid new). inr (subst (λ (k : ℕ). min (k + 1) greatest ≤ new.clears) g.0.clears c))
      f)
      (λ (c : HasCleared old mid). inr (cleared_grows d old mid new c kept))
      before

  abbrev with_way : ProgressValue → ℕ → ProgressValue
  with_way t k = told_with (t.searched + progress_len t.progress) (scan_distance d.nfa.automaton.reverse
      (left_at d.nfa.automaton.reverse q at) k)

  -- the progress, whether the cache was cleared or not
  told_then : (t : ProgressValue) → progress_of new ≡ progress_by_reading r q at t → progress_of new ≡ progress_by_call r q w t
  told_then t f = f ∙ sym (ap (λ (b : Bool). if b then with_way t (call_units r q w) else t) reads ∙ ap (with_way t) same_units)

  cleared_on : mid.clears ≡ old.clears → HasCleared mid new → HasCleared old new
  cleared_on same c = subst (λ (k : ℕ). min (k + 1) greatest ≤ new.clears) same c

  abbrev IsCut : Type 0
  IsCut = (m : ℕ) × (m < units_at r q at) × (progress_of new ≡ overlapping_done r.automaton.reverse q at 0 m (units_at r q at - 1))

  cut : IsCut → ReportsCallAnew r q w (progress_of new)
  cut c = anew_at c.0 (subst (λ (u : ℕ). c.0 < u) (sym same_units) c.1)
      (c.2 ∙ ap (λ (u : ℕ). overlapping_done r.automaton.reverse q at 0 c.0 (u - 1)) (sym same_units))

  abbrev IsReadOk : Type 0
  IsReadOk = ((progress_of new ≡ progress_by_reading r q at (progress_of mid)) × (new.clears ≡ mid.clears)) ⊎ (HasCleared mid new × IsCut)

  told_ok : GrowsOrClears d mid new → IsReadOk →
      ((progress_of new ≡ progress_by_call r q w (progress_of old)) × (new.clears ≡ old.clears)) ⊎
      (HasCleared old new × ReportsCallAnew r q w (progress_of new))
  told_ok kept f = ⊎_elim
      (λ (s : (progress_of mid ≡ progress_of old) × (mid.clears ≡ old.clears)). ⊎_elim
      (λ (y : (progress_of new ≡ progress_by_reading r q at (progress_of mid)) ×
      (new.clears ≡ mid.clears)). inl (told_so s.0 y.0, y.1 ∙ s.1))
      (λ (y : HasCleared mid new × IsCut). inr (cleared_on s.1 y.0, cut y.1))
      f)
      (λ (c : HasCleared old mid × ((w ≡ Fresh) × IsFresh (progress_of mid))). inr (
        cleared_grows d old mid new c.0 kept,
        ⊎_elim
            (λ (y : (progress_of new ≡ progress_by_reading r q at (progress_of mid)) × (new.clears ≡ mid.clears)).
            anew_at_start c.1.0 (progress_of mid) c.1.1 (told_then (progress_of mid) y.0))
            (λ (y : HasCleared mid new × IsCut). cut y.1)
            f,
      ))
      told_mid

  module _ (e : MatchErrorKind) (kept : GrowsOrClears d mid new) where
    abbrev IsLeft : ProgressValue → ℕ → Type 0
    IsLeft t k = progress_of new ≡ overlapping_left r.automaton.reverse (is_quit_error e) q at (min (t.searched + progress_len t.progress)
        greatest) 0
        k

    abbrev IsCutAt : ℕ → Type 0
    IsCutAt k = (m : ℕ) × (m ≤ k) × (progress_of new ≡ overlapping_left r.automaton.reverse (is_quit_error e) q at 0 m k)

    abbrev IsReadErr : ℕ → Type 0
    IsReadErr k = (IsLeft (progress_of mid) k × (new.clears ≡ mid.clears)) ⊎ (HasCleared mid new × IsCutAt k)

    abbrev IsErr : Type 0
    IsErr = (LeavesCall d q w e (progress_of old) new × (new.clears ≡ old.clears)) ⊎
        (HasCleared old new × FailsCallAnew d q w e new)

    module _ (k : ℕ) (less : k < units_at r q at) (there : FailsThere d new q (offset_of r.automaton.reverse at k) e)
        (quiet : HasNoQuit r q.haystack at k) where
      less_call : k < call_units r q w
      less_call = subst (λ (u : ℕ). k < u) (sym same_units) less

      err_by : IsReadErr k → IsErr
      err_by f = ⊎_elim
          (λ (s : (progress_of mid ≡ progress_of old) × (mid.clears ≡ old.clears)). ⊎_elim
          (λ (y : IsLeft (progress_of mid) k × (new.clears ≡ mid.clears)).
          inl (left_at_unit k less_call there quiet (subst (λ (t : ProgressValue). IsLeft t k) s.0 y.0), y.1 ∙ s.1))
          (λ (y : HasCleared mid new × IsCutAt k). inr (cleared_on s.1 y.0, fails_behind y.1.0 k y.1.1 less_call there quiet y.1.2))
          f)
          (λ (c : HasCleared old mid × ((w ≡ Fresh) × IsFresh (progress_of mid))). inr (
            cleared_grows d old mid new c.0 kept,
            ⊎_elim
                (λ (y : IsLeft (progress_of mid) k × (new.clears ≡ mid.clears)).
                fails_behind_start c.1.0 (progress_of mid) c.1.1 (left_at_unit k less_call there quiet y.0))
                (λ (y : HasCleared mid new × IsCutAt k). fails_behind y.1.0 k y.1.1 less_call there quiet y.1.2)
                f,
          ))
          told_mid

    told_err : IsReadReported d q at (Err e) mid new → IsErr
    told_err x = err_by x.0 x.1 x.2 x.3 x.4

  reads_not : {P : Type 0} → reads_on r q w ≡ false → P
  reads_not e = absurd (true≢false (sym reads ∙ e))

  pub told_on : (after : OverlappingValue) → ReadsOn d q at mid new m m2 n n2 (Ok after) → MakesCall d q old new m1 m2 n1 n2 w after fine
  told_on after x = record {
    answer = inl (record {
      answer = sym (ap (λ (y : Rest). result_left y.ends y.rejection) left ∙ x.ok.0);
      found = x.ok.1 ∙ sym (ap (λ (y : Rest). half_of (first y.ends)) left);
      left = x.ok.2 ∙ sym (ap others left);
      stops = x.ok.5 ∙ sym (ap (λ (i : ℕ). stop_after i (first (rest_of r q w).ends)) (index_on r q w reads)
          ∙ ap (λ (y : Rest). stop_after 1 (first y.ends)) left);
    });
    walk = x.ok.3;
    failed = tt;
    kept = kept_on x.kept;
    reported = followed x.kept x.reported;
    ends = x.ok.4;
    still = λ none quiet. reads_not quiet;
    quiet = λ none quiet. reads_not quiet;
    determinized = few_more m1 m m2 (call_starts q w) (units_at r q at) (call_units r q w) same_units few x.determinized;
    inserted = few_more_put n1 n n2 (call_starts q w) (units_at r q at) (call_units r q w) (most_inserts d) same_units few_put x.inserted;
    quits = λ quiet. x.quits (past quiet);
    changes = changes_so x.changes;
    anew = told_ok x.kept x.anew;
  }

  answered : (e : MatchErrorKind) →
      (result_left rest.ends rest.rejection ≡ Err e) ⊎ (e ≡ NoMemory) ⊎ ((x : ℕ) × (e ≡ GaveUp x) × GivesUpFrom d new q at x) →
      AnswersOverlapping d new q w (failed_by e) (failure e)
  answered e (inl is) = let alone = refusal_alone rest.ends rest.rejection e is in inl (tells_refusal r q w rest e left alone.0 alone.1)
  answered e (inr (inl lacks)) = inr (inl (ap failure lacks))
  answered e (inr (inr g)) = inr (inr (g.0, ap failure g.1, gives_up g.0 g.2))

  pub refused_on : (e : MatchErrorKind) → ReadsOn d q at mid new m m2 n n2 (Err e) →
      MakesCall d q old new m1 m2 n1 n2 w (failed_by e) (failure e)
  refused_on e x = record {
    answer = answered e x.err;
    walk = tt;
    failed = refl;
    kept = kept_on x.kept;
    reported = tt;
    ends = tt;
    still = λ none quiet. reads_not quiet;
    quiet = λ none quiet. reads_not quiet;
    determinized = few_more m1 m m2 (call_starts q w) (units_at r q at) (call_units r q w) same_units few x.determinized;
    inserted = few_more_put n1 n n2 (call_starts q w) (units_at r q at) (call_units r q w) (most_inserts d) same_units few_put x.inserted;
    quits = λ quiet. tt;
    changes = changes_so x.changes;
    anew = told_err e x.kept x.anew;
  }

  -- both cases, by the result of the call
  abbrev Makes : Result OverlappingValue MatchErrorKind → Type 0
  Makes result =
      IfOk result (λ after. MakesCall d q old new m1 m2 n1 n2 w after fine) ×
      IfErr result (λ e. MakesCall d q old new m1 m2 n1 n2 w (failed_by e) (failure e))

  pub makes_on : (result : Result OverlappingValue MatchErrorKind) → ReadsOn d q at mid new m m2 n n2 result → Makes result
  makes_on (Ok after) x = (told_on after x, tt)
  makes_on (Err e) x = (tt, refused_on e x)

abbrev pub MakesIts : Dfa → Search → OverlappingPosition → CacheValue → CacheValue → ℕ → ℕ → ℕ → ℕ →
    Result OverlappingValue MatchErrorKind → Type 0
MakesIts d q w old new m1 m2 n1 n2 result =
    IfOk result (λ after. MakesCall d q old new m1 m2 n1 n2 w after fine) ×
    IfErr result (λ e. MakesCall d q old new m1 m2 n1 n2 w (failed_by e) (failure e))
