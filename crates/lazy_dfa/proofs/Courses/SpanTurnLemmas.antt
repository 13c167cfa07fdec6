-- Turns of a scan in its span: what carries over to a cache that differs only in its progress, and what the turns report to it.
use Rattle.std.proofs.Common.{◌≡◌, ◌≢◌, ◌⊎◌, ℕ, suc, ◌+◌, ◌-◌, ◌<◌, ◌≤◌, ◌==◌, Bool, true, false, ◌&&◌, not, if◌then◌else◌, nat_le, List}
use Rattle.std.proofs.Common.{length, get_or, is_some, Option, Some, None, Err, refl, sym, ap, ◌∙◌, subst, inl, inr, ⊎_elim, arith}
use Rattle.std.proofs.Common.{true≢false}
use Rattle.std.specs.Prelude.{min, IsSome}
use Rattle.std.proofs.lemmas.Bool.{cases_lt, cases_Bool, eqb-true, eq-eqb}
use Rattle.std.proofs.lemmas.Option.{slice_get-get_or}
use Rattle.std.proofs.Math.Nat.{min-eq_left, min-eq_right}
use Rattle.search_core.specs.ByteSets.{has}
use Rattle.search_core.specs.Text.{byte_before}
use Rattle.nfa_core.specs.Ways.{offset_of}
use Rattle.determinize_core.specs.States.{StateValue}
use Rattle.determinize_core.specs.Steps.{unit_at}
use Rattle.search_types.specs.declared.match_error.MatchErrorKind.{MatchErrorKind}
use Rattle.search_types.specs.declared.match_error.MatchErrorKind.TheVariants.{Quit}
use Rattle.search_types.specs.Inputs.{Search}
use Rattle.lazy_dfa.specs.AnewProgress.{progress_anew, anew_if}
use Rattle.lazy_dfa.specs.Caches.{CacheValue, IsRow, HeldAt, greatest, distance, progress_len, moved_to}
use Rattle.lazy_dfa.specs.Courses.{state_after, stops_after}
use Rattle.lazy_dfa.specs.declared.cache_error.CacheError.{CacheError}
use Rattle.lazy_dfa.specs.declared.cache_error.CacheError.TheVariants.{GaveUp, NoMemory}
use Rattle.lazy_dfa.specs.declared.cache.progress.Progress.{Progress}
use Rattle.lazy_dfa.specs.declared.search.scan_steps.Turn.{Turn}
use Rattle.lazy_dfa.specs.declared.search.scan_steps.Turn.TheVariants.{GoesOn, Ends, Quits}
use Rattle.lazy_dfa.specs.Dfas.{Dfa, reader}
use Rattle.lazy_dfa.specs.Linked.{CacheGrows, HasCleared, GrowsOrClears, IsMoved}
use Rattle.lazy_dfa.specs.MadeScans.{span_len}
use Rattle.lazy_dfa.specs.Scans.{index_at, is_dead}
use Rattle.lazy_dfa.specs.Points.{Point, began, Follows, GoesTo, point}
use Rattle.lazy_dfa.specs.Readers.{is_quit}
use Rattle.lazy_dfa.specs.SearchAnswers.{ProgressValue, progress_of, scan_distance, running_at}
use Rattle.lazy_dfa.specs.ScanOffsets.{IsWithinSpan, last_offset, came, reports, first_index, BeganFirst, finished, finished_where}
use Rattle.lazy_dfa.specs.ScanOffsets.{progress_past}
use Rattle.lazy_dfa.specs.ScanOffsets.{error_of, EndsWith, gave_up_at, turned_progress, ReportsTurn, TurnsTo}
use Rattle.lazy_dfa.specs.ScanSteps.{Leaves, FailsOn, ReportsTheSame, GoesOne, IsSeen, IsTurn}
use Rattle.lazy_dfa.specs.Changes.{IsMadeAt}
use Rattle.lazy_dfa.proofs.CacheChanges.ChangesLemmas.{changes_moved, changes_from_moved}
use Rattle.lazy_dfa.proofs.CacheChanges.IsCacheLemmas.{le_of, lt_of}
use Rattle.lazy_dfa.proofs.CacheChanges.LinkedLemmas.{moved_refl, moved_trans, names_moved, noted_moved, moved_starts, id_moved}
use Rattle.lazy_dfa.proofs.CacheChanges.LinkedLemmas.{linked_moved}

-- ---- caches that differ only in their progress

moved_clears : (v w : CacheValue) → IsMoved v w → w.clears ≡ v.clears
moved_clears v w e = ap (λ (c : CacheValue). c.clears) e

pub held_moved : (v w : CacheValue) (id : ℕ) (s : StateValue) → IsMoved v w → HeldAt v id s → HeldAt w id s
held_moved v w id s e h = subst (λ (x : CacheValue). HeldAt x id s) (sym e) h

pub row_moved : (v w : CacheValue) (id : ℕ) → IsMoved v w → IsRow v id → IsRow w id
row_moved v w id e r = subst (λ (x : CacheValue). IsRow x id) (sym e) r

pub moved_is : (v w : CacheValue) (at : ℕ) → w ≡ record v { progress = moved_to at v.progress } → IsMoved v w
moved_is v w at e = subst (λ (x : CacheValue). IsMoved v x) (sym e) refl

pub finished_moves : (v w : CacheValue) (at : ℕ) → w ≡ finished at v → IsMoved v w
finished_moves v w at e = subst (λ (x : CacheValue). IsMoved v x) (sym e) refl

where_moves : (v : CacheValue) (at : ℕ) (wanted : Bool) → IsMoved v (finished_where wanted at v)
where_moves v at false = refl
where_moves v at true = refl

pub finished_where_moves : (v w : CacheValue) (at : ℕ) (wanted : Bool) → w ≡ finished_where wanted at v → IsMoved v w
finished_where_moves v w at wanted e = subst (λ (x : CacheValue). IsMoved v x) (sym e) (where_moves v at wanted)

-- what holds for the later one of two such caches holds for the earlier one
module _ (d : Dfa) (v w : CacheValue) (e : IsMoved v w) where
  cleared_back : (x : CacheValue) → HasCleared w x → HasCleared v x
  cleared_back x c = subst (λ (n : ℕ). min (n + 1) greatest ≤ x.clears) (moved_clears v w e) c

  grows_back : (x : CacheValue) → CacheGrows d w x → CacheGrows d v x
  grows_back x g = record {
    names = λ id s n. g.names id s (names_moved d v w e id s n);
    known = λ id u r unit n. let f = noted_moved d v w e id u in g.known id u (row_moved v w id e r) unit (λ z. n (sym f ∙ z)) ∙ f;
    starts = λ i n. let f = ap (λ (c : List ℕ). get_or c i 0) (moved_starts d v w e) in g.starts i (λ z. n (sym f ∙ z)) ∙ f;
    clears = g.clears ∙ moved_clears v w e;
  }

  kept_back : (x : CacheValue) → GrowsOrClears d w x → GrowsOrClears d v x
  kept_back x k = ⊎_elim (λ (g : CacheGrows d w x). inl (grows_back x g)) (λ (c : HasCleared w x). inr (cleared_back x c)) k

  module _ (h : List ℕ) (m n at id : ℕ) (best : Option (ℕ × ℕ)) where
    pub leaves_back : (x : CacheValue) (m2 n2 k : ℕ) → Leaves d h (point w m n at id best) x m2 n2 k →
        Leaves d h (point v m n at id best) x m2 n2 k
    leaves_back x m2 n2 k l = record {
      kept = kept_back x l.kept;
      free = λ linked. let f = l.free (linked_moved d v w e h at id (suc k) linked) in (moved_trans v w x e f.0, f.1, f.2);
      determinized = l.determinized;
      inserted = l.inserted;
      changes = λ s named. changes_from_moved d (IsMadeAt (reader d) h at s (suc k)) v w x (suc k) e
          (l.changes s (names_moved d v w e id s named));
    }

    pub fails_back : (x : CacheValue) (m2 n2 k : ℕ) → FailsOn d h (point w m n at id best) x m2 n2 k →
        FailsOn d h (point v m n at id best) x m2 n2 k
    fails_back x m2 n2 k f = record {
      leaves = leaves_back x m2 n2 k f.leaves;
      unknown = λ linked. f.unknown (linked_moved d v w e h at id (suc k) linked);
    }

    pub goes_back : (to : Point) (k : ℕ) → w.searched ≡ v.searched → began w.progress ≡ began v.progress →
        (IsSome v.progress → IsSome w.progress) →
        GoesTo d h (point w m n at id best) to k → GoesTo d h (point v m n at id best) to k
    goes_back to k searched begins runs g = record {
      place = g.place;
      names = λ s named. g.names s (names_moved d v w e id s named);
      read = λ s named. g.read s (names_moved d v w e id s named);
      best = λ s named. g.best s (names_moved d v w e id s named);
      kept = ⊎_elim
          (λ (f : Follows d h (point w m n at id best) to k). inl (record {
            grows = grows_back to.cache f.grows;
            leads = f.leads;
            linked = f.linked;
            searched = f.searched ∙ searched;
            began = f.began ∙ begins;
          }))
          (λ (c : HasCleared w to.cache). inr (cleared_back to.cache c))
          g.kept;
      free = λ l.
          let f = g.free (linked_moved d v w e h at id k l) in
          record {
            moved = moved_trans v w to.cache e f.moved;
            leads = sym (id_moved d v w e h at id k) ∙ f.leads;
            determinized = f.determinized;
            inserted = f.inserted;
          };
      running = λ r. g.running (runs r);
      determinized = g.determinized;
      inserted = g.inserted;
      changes = λ s named. changes_from_moved d (IsMadeAt (reader d) h at s k) v w to.cache k e
          (g.changes s (names_moved d v w e id s named));
    }

-- what was left in the earlier cache is left in the later one
pub leaves_forth : (d : Dfa) (h : List ℕ) (from : Point) (v w : CacheValue) (m n k : ℕ) → IsMoved v w → Leaves d h from v m n k →
    Leaves d h from w m n k
leaves_forth d h from v w m n k e l = record {
  kept = ⊎_elim
      (λ (g : CacheGrows d from.cache v). inl (record {
        names = λ i s n. names_moved d v w e i s (g.names i s n);
        known = λ i u r unit n. noted_moved d v w e i u ∙ g.known i u r unit n;
        starts = λ i n. ap (λ (c : List ℕ). get_or c i 0) (moved_starts d v w e) ∙ g.starts i n;
        clears = moved_clears v w e ∙ g.clears;
      }))
      (λ (c : HasCleared from.cache v). inr (subst (λ (x : ℕ). min (from.cache.clears + 1) greatest ≤ x) (sym (moved_clears v w e)) c))
      l.kept;
  free = λ linked. let f = l.free linked in (moved_trans from.cache v w f.0 e, f.1, f.2);
  determinized = l.determinized;
  inserted = l.inserted;
  changes = λ s named. changes_moved d (IsMadeAt (reader d) h from.at s (suc k)) from.cache v w (suc k) e (l.changes s named);
}

-- ---- progress

pub began_moved : (at : ℕ) (o : Option Progress) → began (moved_to at o) ≡ began o
began_moved at None = refl
began_moved at (Some p) = refl

moved_some : (at : ℕ) (o : Option Progress) → IsSome o → IsSome (moved_to at o)
moved_some at None r = r
moved_some at (Some p) r = refl

pub some_moved : (v w : CacheValue) (at : ℕ) → w ≡ record v { progress = moved_to at v.progress } → IsSome v.progress → IsSome w.progress
some_moved v w at e r = subst (λ (x : CacheValue). IsSome x.progress) (sym e) (moved_some at v.progress r)

-- the running search is at that offset
moved_there : (o : Option Progress) (at : ℕ) → IsSome o → running_at (moved_to at o) ≡ Some at
moved_there None at r = absurd (true≢false (sym r))
moved_there (Some p) at r = refl

pub runs_there : (v w : CacheValue) (at : ℕ) → w ≡ record v { progress = moved_to at v.progress } → IsSome v.progress →
    running_at w.progress ≡ Some at
runs_there v w at e r = ap (λ (x : CacheValue). running_at x.progress) e ∙ moved_there v.progress at r

len_there : (o : Option Progress) (a at : ℕ) → began o ≡ Some a → progress_len (moved_to at o) ≡ distance a at
len_there None a at e = absurd (true≢false (sym (ap is_some e)))
len_there (Some p) a at e = let same : p.start ≡ a = cc in ap (λ (x : ℕ). distance x at) same

abbrev pub told_end : ℕ → ℕ → ProgressValue
told_end s x = record { searched = min (s + x) greatest; progress = None }

-- what a search reports at its end if it began at one index and gets to another
pub told_there : (w : CacheValue) (s a at x : ℕ) → w.searched ≡ s → began w.progress ≡ Some a → distance a at ≡ x →
    progress_of (finished at w) ≡ told_end s x
told_there w s a at x e f g =
    ap (λ (n : ℕ). told_end n (progress_len (moved_to at w.progress))) e
    ∙ ap (λ (n : ℕ). told_end s n) (len_there w.progress a at f ∙ g)

some_bytes : (n : ℕ) → 0 < n → n == 0 ≡ false
some_bytes n l = ⊎_elim
    (λ (e : n == 0 ≡ true). let z = eqb-true n 0 e in absurd (omega (arith, l, z)))
    (λ (e : n == 0 ≡ false). e)
    (cases_Bool (n == 0))

no_bytes : (n : ℕ) → n ≡ 0 → n == 0 ≡ true
no_bytes n e = ap (λ (k : ℕ). k == 0) e

pub told_behind_some : (is_reverse : Bool) (n units x : ℕ) (t : ProgressValue) → 0 < n → x ≡ scan_distance is_reverse n units →
    told_end t.searched x ≡ progress_past is_reverse n t units
told_behind_some false n units x t l e = ap (told_end t.searched) e
told_behind_some true n units x t l e =
    ap (told_end t.searched) e
    ∙ sym (ap (λ (b : Bool). if b then t else told_end t.searched (scan_distance true n units)) (some_bytes n l))

pub told_behind_none : (n units : ℕ) (t : ProgressValue) → n ≡ 0 → t ≡ progress_past true n t units
told_behind_none n units t e = sym (ap (λ (b : Bool). if b then t else told_end t.searched (scan_distance true n units)) (no_bytes n e))

pub not_le : (a b : ℕ) → b < a → not (nat_le a b) ≡ true
not_le a b l = ⊎_elim
    (λ (e : nat_le a b ≡ true). let g = le_of a b e in absurd (omega (arith, g, l)))
    (λ (e : nat_le a b ≡ false). ap not e)
    (cases_Bool (nat_le a b))

pub is_le : (a b : ℕ) → a ≤ b → not (nat_le a b) ≡ false
is_le a b l = ⊎_elim
    (λ (e : nat_le a b ≡ true). ap not e)
    (λ (e : nat_le a b ≡ false). let g = lt_of a b e in absurd (omega (arith, g, l)))
    (cases_Bool (nat_le a b))

-- the length of a scan, by its first index and its last one
forward_distance : (s at : ℕ) → s ≤ at → distance s at ≡ suc (at - s) - 1
forward_distance s at l = omega (arith, l)

reverse_distance : (s e at : ℕ) → s < at → at ≤ e → distance (e - 1) (at - 1) ≡ min (suc (e - at) - 1) (e - s - 1)
reverse_distance s e at l g =
    let f : min (suc (e - at) - 1) (e - s - 1) ≡ suc (e - at) - 1 = min-eq_left (omega (arith, l, g)) in
    omega (arith, l, g, f)

whole_distance : (s e : ℕ) → s < e → distance (e - 1) s ≡ min (suc (e - s) - 1) (e - s - 1)
whole_distance s e l =
    let f : min (suc (e - s) - 1) (e - s - 1) ≡ e - s - 1 = min-eq_right (omega (arith, l)) in
    omega (arith, l, f)

above : (s at : ℕ) → s ≤ at → at ≢ s → s < at
above s at l n = ⊎_elim (λ (g : s < at). g) (λ (g : at ≤ s). absurd (n (omega (arith, l, g)))) (cases_lt s at)

above_end : (at e : ℕ) → at ≤ e → at ≢ e → at < e
above_end at e l n = ⊎_elim (λ (g : at < e). g) (λ (g : e ≤ at). absurd (n (omega (arith, l, g)))) (cases_lt at e)

pub cleared_between : (v0 v1 v2 v3 : CacheValue) → IsMoved v0 v1 → IsMoved v2 v3 → HasCleared v1 v2 → HasCleared v0 v3
cleared_between v0 v1 v2 v3 e f c =
    subst (λ (n : ℕ). min (n + 1) greatest ≤ v3.clears) (moved_clears v0 v1 e)
    (subst (λ (n : ℕ). min (v1.clears + 1) greatest ≤ n) (sym (moved_clears v2 v3 f)) c)

abbrev IsSame : CacheValue → CacheValue → Type 0
IsSame old new = (progress_of new ≡ progress_of old) × (new.clears ≡ old.clears)

abbrev IsAnew : CacheValue → CacheValue → Type 0
IsAnew old new = HasCleared old new × (progress_of new ≡ progress_anew (progress_of old))

abbrev TellsEnd : Bool → Search → ℕ → CacheValue → CacheValue → Type 0
TellsEnd is_reverse q at old new = (progress_of new ≡ progress_past is_reverse (span_len q) (progress_of old) (suc (came is_reverse q at)))
    ⊎
    HasCleared old new

-- ---- what a turn by a byte reports

byte_end_told : (is_reverse : Bool) (q : Search) (v v2 : CacheValue) (at : ℕ) → IsWithinSpan q at → at ≢ last_offset is_reverse q →
    v2.searched ≡ v.searched →
    (reports is_reverse q ≡ true → began v2.progress ≡ Some (first_index is_reverse q)) →
    progress_of (finished (index_at is_reverse at) v2) ≡ progress_past is_reverse (span_len q) (progress_of v) (suc (came is_reverse q at))
byte_end_told false q v v2 at within left searched begins =
    told_there v2 v.searched q.start at (suc (at - q.start) - 1) searched (begins refl) (forward_distance q.start at within.0)
byte_end_told true q v v2 at within left searched begins =
    let l = above q.start at within.0 left in
    let far = within.1 in
    told_there v2 v.searched (q.end - 1) (at - 1) (min (suc (q.end - at) - 1) (q.end - q.start - 1)) searched
    (begins (not_le q.end q.start (omega (arith, l, far)))) (reverse_distance q.start q.end at l far)
    ∙ told_behind_some true (q.end - q.start) (suc (q.end - at)) (min (suc (q.end - at) - 1) (q.end - q.start - 1)) (progress_of v)
    (omega (arith, l, far)) refl

byte_told : (is_reverse : Bool) (q : Search) (v0 v1 v2 v3 : CacheValue) (at index : ℕ) → index ≡ index_at is_reverse at →
    v1 ≡ record v0 { progress = moved_to index v0.progress } →
    v3 ≡ finished index v2 → IsWithinSpan q at → at ≢ last_offset is_reverse q → ReportsTheSame v1 v2 → BeganFirst is_reverse q v0 →
    TellsEnd is_reverse q at v0 v3
byte_told is_reverse q v0 v1 v2 v3 at index here e f within left same begins = ⊎_elim
    (λ (g : IsSame v1 v2). inl (ap progress_of f ∙ (ap (λ (x : ℕ). progress_of (finished x v2)) here
    ∙ byte_end_told is_reverse q v0 v2 at within left (ap (λ (t : ProgressValue). t.searched) g.0 ∙ ap (λ (c : CacheValue). c.searched) e)
    (λ reports. ap (λ (t : ProgressValue). began t.progress) g.0 ∙ (ap (λ (c : CacheValue). began c.progress) e
    ∙ (began_moved index v0.progress ∙ begins reports))))))
    (λ (c : IsAnew v1 v2). inr (cleared_between v0 v1 v2 v3 (moved_is v0 v1 index e) (finished_moves v2 v3 index f) c.0))
    same

-- ---- what the last turn reports

last_told_same : (is_reverse : Bool) (q : Search) (v0 v1 v2 v3 : CacheValue) (at : ℕ) →
    v1 ≡ finished_where (is_reverse && reports is_reverse q) at v0 → v3 ≡ finished_where (not is_reverse) at v2 →
    at ≡ last_offset is_reverse q → q.start ≤ q.end → progress_of v2 ≡ progress_of v1 → BeganFirst is_reverse q v0 →
    progress_of v3 ≡ progress_past is_reverse (span_len q) (progress_of v0) (suc (came is_reverse q at))
last_told_same false q v0 v1 v2 v3 at e f last begun g begins =
    ap progress_of f
    ∙ told_there v2 v0.searched q.start at (suc (at - q.start) - 1) (ap (λ (t : ProgressValue). t.searched) g
    ∙ ap (λ (c : CacheValue). c.searched) e)
    (ap (λ (t : ProgressValue). began t.progress) g ∙ (ap (λ (c : CacheValue). began c.progress) e ∙ begins refl))
    (forward_distance q.start at (omega (arith, last, begun)))
last_told_same true q v0 v1 v2 v3 at e f last begun g begins = ap progress_of f ∙ (g ∙ ⊎_elim
    (λ (l : q.start < q.end).
    let yes_tells = not_le q.end q.start l in
    ap progress_of (e ∙ ap (λ (b : Bool). finished_where b at v0) yes_tells)
    ∙ (told_there v0 v0.searched (q.end - 1) at (min (suc (q.end - q.start) - 1) (q.end - q.start - 1)) refl (begins yes_tells)
    (ap (distance (q.end - 1)) last ∙ whole_distance q.start q.end l)
    ∙ told_behind_some true (q.end - q.start) (suc (q.end - at)) (min (suc (q.end - q.start) - 1) (q.end - q.start - 1)) (progress_of v0)
    (omega (arith, l))
    (sym (ap (λ (x : ℕ). min (suc (q.end - x) - 1) (q.end - q.start - 1)) last))))
    (λ (l : q.end ≤ q.start).
    ap progress_of (e ∙ ap (λ (b : Bool). finished_where b at v0) (is_le q.end q.start l))
    ∙ told_behind_none (q.end - q.start) (suc (q.end - at)) (progress_of v0) (omega (arith, l)))
    (cases_lt q.start q.end))

last_told : (is_reverse : Bool) (q : Search) (v0 v1 v2 v3 : CacheValue) (at : ℕ) →
    v1 ≡ finished_where (is_reverse && reports is_reverse q) at v0 → v3 ≡ finished_where (not is_reverse) at v2 →
    at ≡ last_offset is_reverse q → q.start ≤ q.end → ReportsTheSame v1 v2 → BeganFirst is_reverse q v0 → TellsEnd is_reverse q at v0 v3
last_told is_reverse q v0 v1 v2 v3 at e f last begun same begins = ⊎_elim
    (λ (g : IsSame v1 v2). inl (last_told_same is_reverse q v0 v1 v2 v3 at e f last begun g.0 begins))
    (λ (c : IsAnew v1 v2). inr (cleared_between v0 v1 v2 v3 (finished_where_moves v0 v1 at (is_reverse && reports is_reverse q) e)
    (finished_where_moves v2 v3 at (not is_reverse) f) c.0))
    same

-- ---- the unit at an offset

pub byte_unit : (is_reverse back : Bool) (q : Search) (h : List ℕ) (at index : ℕ) → is_reverse ≡ back → h ≡ q.haystack →
    index ≡ index_at is_reverse at → IsWithinSpan q at → at ≢ last_offset is_reverse q →
    q.end ≤ length q.haystack → Some (get_or h index 0) ≡ unit_at back q.haystack at
byte_unit is_reverse back q h at index same is here within left inside =
    ap (λ (x : List ℕ). Some (get_or x index 0)) is
    ∙ (ap (λ (i : ℕ). Some (get_or q.haystack i 0)) here
    ∙ (there is_reverse left ∙ ap (λ (b : Bool). unit_at b q.haystack at) same))
  where
    back_one : (n s : ℕ) → s < n → suc (n - 1) ≡ n
    back_one n s l = omega (arith, l)

    there : (is_reverse : Bool) → at ≢ last_offset is_reverse q → Some (get_or q.haystack (index_at is_reverse at) 0) ≡ unit_at is_reverse
        q.haystack at
    there false left =
        let far = above_end at q.end within.1 left in
        sym (slice_get-get_or q.haystack at 0 (omega (arith, far, inside)))
    there true left =
        let l = above q.start at within.0 left in
        let far = within.1 in
        sym (slice_get-get_or q.haystack (at - 1) 0 (omega (arith, l, far, inside)))
        ∙ ap (byte_before q.haystack) (back_one at q.start l)

-- ---- turns in a span

module _ (d : Dfa) (q : Search) (is_reverse : Bool) (same : is_reverse ≡ d.nfa.automaton.reverse) (v0 v1 v2 : CacheValue)
    (m1 n1 m2 n2 at id : ℕ) (best : Option (ℕ × ℕ)) (u : Option ℕ) where
  abbrev from : Point
  from = point v0 m1 n1 at id best

  abbrev before : Point
  before = point v1 m1 n1 at id best

  index_there : (index : ℕ) → index ≡ index_at is_reverse at → index ≡ index_at d.nfa.automaton.reverse at
  index_there index e = e ∙ ap (λ (b : Bool). index_at b at) same

  gave_up : (is : Bool) (place : ℕ) → at == last_offset d.nfa.automaton.reverse q ≡ is →
      place ≡ (if is then at else index_at d.nfa.automaton.reverse at) → place ≡ gave_up_at d.nfa.automaton.reverse q at
  gave_up is place e f = f ∙ sym (ap (λ (b : Bool). if b then at else index_at d.nfa.automaton.reverse at) e)

  pub gave_up_last : (place : ℕ) → place ≡ at → at ≡ last_offset is_reverse q → place ≡ gave_up_at d.nfa.automaton.reverse q at
  gave_up_last place e last =
      gave_up true place (eq-eqb at (last_offset d.nfa.automaton.reverse q) (last ∙ ap (λ (b : Bool). last_offset b q) same)) e

  pub gave_up_byte : (place : ℕ) → place ≡ index_at is_reverse at → at ≢ last_offset is_reverse q →
      place ≡ gave_up_at d.nfa.automaton.reverse q at
  gave_up_byte place e left = ⊎_elim
      (λ (f : at == last_offset d.nfa.automaton.reverse q ≡ true). absurd
      (left (eqb-true at (last_offset d.nfa.automaton.reverse q) f ∙ ap (λ (b : Bool). last_offset b q) (sym same))))
      (λ (f : at == last_offset d.nfa.automaton.reverse q ≡ false). gave_up false place f (index_there place e))
      (cases_Bool (at == last_offset d.nfa.automaton.reverse q))

  -- what a turn reports, by what was reported before its step
  abbrev Turned : Bool → Bool → CacheValue → Type 0
  Turned finishes ends v3 = (cleared : Bool) → progress_of v2 ≡ anew_if cleared (progress_of v1) →
      progress_of v3 ≡ turned_progress d.nfa.automaton.reverse finishes ends cleared q at (progress_of v0)

  tells_turn : (finishes ends : Bool) (v3 : CacheValue) → IsMoved v0 v1 → IsMoved v2 v3 → Turned finishes ends v3 → ReportsTheSame v1 v2 →
      ReportsTurn d finishes ends q at v0 v3
  tells_turn finishes ends v3 moved after reported same = ⊎_elim
      (λ (g : IsSame v1 v2). inl (reported false g.0, moved_clears v2 v3 after ∙ (g.1 ∙ moved_clears v0 v1 moved)))
      (λ (c : IsAnew v1 v2). inr (cleared_between v0 v1 v2 v3 moved after c.0, reported true c.1))
      same

  refused_so : (earliest : Bool) (place : ℕ) (e : CacheError) → IsMoved v0 v1 → u ≡ unit_at d.nfa.automaton.reverse q.haystack at →
      place ≡ gave_up_at d.nfa.automaton.reverse q at →
      (at ≢ last_offset d.nfa.automaton.reverse q → running_at v1.progress ≡ Some place) → Turned false false v2 →
      IsTurn d earliest q.haystack u before v2 m2 n2 (Err e) → TurnsTo d q from v2 m2 n2 (Err (error_of place e))
  refused_so earliest place NoMemory moved is there runs reports turn = (
    fails_back d v0 v1 moved q.haystack m1 n1 at id best v2 m2 n2 0 turn.0,
    tells_turn false false v2 moved (moved_refl v2) reports turn.2,
  )
  refused_so earliest place GaveUp moved is there runs reports turn = (
    fails_back d v0 v1 moved q.haystack m1 n1 at id best v2 m2 n2 0 turn.0,
    ap (is_quit d.quits) (sym is) ∙ turn.1,
    there,
    λ s held. turn.2 s (held_moved v0 v1 id s moved held),
    λ far. ap (λ (v : CacheValue). running_at v.progress) turn.3 ∙ runs far,
    inl (reports false (ap progress_of turn.3), ap (λ (v : CacheValue). v.clears) turn.3 ∙ moved_clears v0 v1 moved),
    subst (λ (v : CacheValue). IsMoved v0 v) (sym turn.3) moved,
  )

  -- a turn that failed
  pub turn_refused : (earliest : Bool) (place : ℕ) (e : CacheError) (err : MatchErrorKind) → IsMoved v0 v1 →
      u ≡ unit_at d.nfa.automaton.reverse q.haystack at →
      place ≡ gave_up_at d.nfa.automaton.reverse q at → (at ≢ last_offset d.nfa.automaton.reverse q → running_at v1.progress ≡ Some place) →
      Turned false false v2 →
      err ≡ error_of place e → IsTurn d earliest q.haystack u before v2 m2 n2 (Err e) → TurnsTo d q from v2 m2 n2 (Err err)
  turn_refused earliest place e err moved is there runs reports reported turn =
      subst (λ (x : MatchErrorKind). TurnsTo d q from v2 m2 n2 (Err x)) (sym reported)
      (refused_so earliest place e moved is there runs reports turn)

  module _ (to : ℕ) (best2 : Option (ℕ × ℕ)) (earliest : Bool) (turn : Turn) (asked : earliest ≡ q.earliest)
      (seen : IsSeen d earliest q.haystack u before v2 m2 n2 to best2 turn) where
    seen_as : (t : Turn) → turn ≡ t → IsSeen d q.earliest q.haystack u before v2 m2 n2 to best2 t
    seen_as t e = subst (λ (x : Turn). IsSeen d q.earliest q.haystack u before v2 m2 n2 to best2 x) e
        (subst (λ (b : Bool). IsSeen d b q.haystack u before v2 m2 n2 to best2 turn) asked seen)

    goes_unless : (t : Turn) → (t ≡ Quits → ⊥) → IsSeen d q.earliest q.haystack u before v2 m2 n2 to best2 t →
        GoesOne d q.haystack before v2 m2 n2 to best2 × ReportsTheSame v1 v2
    goes_unless GoesOn never x = (x.0, x.1)
    goes_unless Ends never x = (x.0, x.1)
    goes_unless Quits never x = absurd (never refl)

    -- by a quit byte
    pub turn_quits : (v3 : CacheValue) (b index : ℕ) (err : MatchErrorKind) → IsMoved v0 v1 → IsMoved v2 v3 →
        u ≡ unit_at d.nfa.automaton.reverse q.haystack at → u ≡ Some b →
        index ≡ index_at is_reverse at → err ≡ Quit b index → Turned true false v3 →
        turn ≡ Quits → TurnsTo d q from v3 m2 n2 (Err err)
    turn_quits v3 b index err moved after is some here reported reports e =
        let x = seen_as Quits e in
        let byte : x.2.0 ≡ b = one_byte x.2.0 b (sym x.2.1 ∙ some) in
        subst (λ (o : MatchErrorKind). TurnsTo d q from v3 m2 n2 (Err o)) (sym reported) (
          leaves_forth d q.haystack from v2 v3 m2 n2 0 after (leaves_back d v0 v1 moved q.haystack m1 n1 at id best v2 m2 n2 0 x.0),
          sym is ∙ some,
          ap (has d.quits) (sym byte) ∙ x.2.2,
          index_there index here,
          tells_turn true false v3 moved after reports x.3,
        )
      where
        one_byte : (a b : ℕ) → Some a ≡ Some b → a ≡ b
        one_byte a b e = cc

    pub some_behind : IsSome v1.progress → turn ≡ Ends → IsSome v2.progress
    some_behind r e = (seen_as Ends e).0.running r

    pub some_kept : IsSome v1.progress → turn ≡ Quits → IsSome v2.progress
    some_kept r e = (seen_as Quits e).1 r

    -- by a byte after which the scan goes on
    pub byte_goes : (index next : ℕ) → v1 ≡ record v0 { progress = moved_to index v0.progress } → next ≡ offset_of is_reverse at 1 →
        at ≢ last_offset is_reverse q → Turned false false v2 → turn ≡ GoesOn →
        GoesOne d q.haystack from v2 m2 n2 to best2 × (next ≡ offset_of d.nfa.automaton.reverse at 1) ×
        (at ≢ last_offset d.nfa.automaton.reverse q) × IsRow v2 to ×
        ((s : StateValue) → HeldAt v0 id s → stops_after (reader d) q.earliest q.haystack at s 0 ≡ false) ×
        ReportsTurn d false false q at v0 v2
    byte_goes index next moved place left reports e =
        let x = seen_as GoesOn e in
        let m = moved_is v0 v1 index moved in (
          goes_back d v0 v1 m q.haystack m1 n1 at id best (point v2 m2 n2 (offset_of d.nfa.automaton.reverse at 1) to best2) 1
              (ap (λ (c : CacheValue). c.searched) moved)
              (ap (λ (c : CacheValue). began c.progress) moved ∙ began_moved index v0.progress) (some_moved v0 v1 index moved) x.0,
          place ∙ ap (λ (b : Bool). offset_of b at 1) same,
          (λ z. left (z ∙ ap (λ (b : Bool). last_offset b q) (sym same))),
          x.2,
          λ s held. x.3 s (held_moved v0 v1 id s m held),
          tells_turn false false v2 m (moved_refl v2) reports x.1,
        )

    -- by a byte at which the scan ends
    pub byte_ends : (v3 : CacheValue) (index : ℕ) → index ≡ index_at is_reverse at →
        v1 ≡ record v0 { progress = moved_to index v0.progress } → v3 ≡ finished index v2 →
        IsWithinSpan q at → at ≢ last_offset is_reverse q → Turned true true v3 → turn ≡ Ends → EndsWith d q from v3 m2 n2 best2
    byte_ends v3 index here moved f within left reports e =
        let x = seen_as Ends e in
        let m = moved_is v0 v1 index moved in
        record {
          before = v1;
          behind = v2;
          id = to;
          begun = m;
          goes = x.0;
          ended = finished_moves v2 v3 index f;
          reported = subst (λ (b : Bool). BeganFirst b q v0 → TellsEnd b q at v0 v3) same
              (byte_told is_reverse q v0 v1 v2 v3 at index here moved f within left x.1);
          why = λ s held. ⊎_elim (λ (y : stops_after (reader d) q.earliest q.haystack at s 0 ≡ true). inl y)
              (λ (y : is_dead (state_after (reader d) q.haystack at s 1) ≡ true). inr (inl y)) (x.2 s (held_moved v0 v1 id s m held));
          reports = tells_turn true true v3 m (finished_moves v2 v3 index f) reports x.1;
        }

    -- at the last offset
    pub last_ends : (v3 : CacheValue) → v1 ≡ finished_where (is_reverse && reports is_reverse q) at v0 →
        v3 ≡ finished_where (not is_reverse) at v2 → at ≡ last_offset is_reverse q → q.start ≤ q.end →
        Turned true true v3 → (turn ≡ Quits → ⊥) → EndsWith d q from v3 m2 n2 best2
    last_ends v3 e f last begun turned never =
        let x = goes_unless turn never (seen_as turn refl) in
        record {
          before = v1;
          behind = v2;
          id = to;
          begun = finished_where_moves v0 v1 at (is_reverse && reports is_reverse q) e;
          goes = x.0;
          ended = finished_where_moves v2 v3 at (not is_reverse) f;
          reported = subst (λ (b : Bool). BeganFirst b q v0 → TellsEnd b q at v0 v3) same
              (last_told is_reverse q v0 v1 v2 v3 at e f last begun x.1);
          why = λ s held. inr (inr (last ∙ ap (λ (b : Bool). last_offset b q) same));
          reports = tells_turn true true v3 (finished_where_moves v0 v1 at (is_reverse && reports is_reverse q) e)
              (finished_where_moves v2 v3 at (not is_reverse) f) turned x.1;
        }
