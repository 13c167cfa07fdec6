-- A whole scan: its start, and what follows from it.
use Rattle.std.proofs.Common.{◌≡◌, ◌≢◌, ◌⊎◌, ℕ, suc, ◌+◌, ◌-◌, ◌*◌, ◌/◌, ◌%◌, ◌<◌, ◌≤◌, ◌==◌, ◌&&◌, not, Bool, true, false, List, Option}
use Rattle.std.proofs.Common.{Some, None, Result, Ok, Err, if◌then◌else◌, refl, sym, ap, ◌∙◌, subst, inl, inr, ⊎_elim, arith, true≢false}
use Rattle.std.specs.Prelude.{min, nat_le, OnOk}
use Rattle.std.proofs.lemmas.Bool.{cases_Bool, cases_lt, eqb-true}
use Rattle.std.proofs.lemmas.Bool.Decides.{leb_tells}
use Rattle.std.proofs.Math.Nat.{min-eq_left, min-eq_right, suc-mul}
use Rattle.search_types.specs.declared.anchored.Anchored.{Anchored}
use Rattle.search_types.specs.declared.match_error.MatchErrorKind.{MatchErrorKind}
use Rattle.search_types.specs.declared.match_error.MatchErrorKind.TheVariants.{GaveUp, NoMemory as SearchNoMemory}
use Rattle.search_types.specs.Found.{HalfFound}
use Rattle.search_types.specs.Inputs.{Search}
use Rattle.search_types.specs.Modes.{is_supported}
use Rattle.determinize_core.specs.States.{StateValue, dead}
use Rattle.determinize_core.specs.Starts.{StartValue}
use Rattle.determinize_core.specs.Steps.{unit_before}
use Rattle.lazy_dfa.specs.AnewProgress.{IsFresh, cut_progress, ReportsAnew, cleared_first, cleared_inside, FailsAnew, fails_first}
use Rattle.lazy_dfa.specs.AnewProgress.{fails_inside}
use Rattle.lazy_dfa.specs.Caches.{CacheValue, IsShaped, IsCacheOf, HeldAt, Names, names_dead, names_held, greatest, progress_len}
use Rattle.lazy_dfa.specs.Caches.{has_no_room}
use Rattle.lazy_dfa.specs.ConfigValue.{starts_each_of}
use Rattle.lazy_dfa.specs.Courses.{state_after}
use Rattle.lazy_dfa.specs.declared.start_error.StartError.{StartError}
use Rattle.lazy_dfa.specs.declared.start_error.StartError.TheVariants.{Quit, UnsupportedAnchored}
use Rattle.lazy_dfa.specs.Dfas.{Dfa, IsDfa, reader, start_in}
use Rattle.lazy_dfa.specs.Ids.{unknown_id, dead_id, has_tag, dead_tag}
use Rattle.lazy_dfa.specs.LeftProgress.{progress_from, LeftAt, is_quit_error, FailsFirst, FailsAtUnit, LeavesScan, left_first, left_at_unit}
use Rattle.lazy_dfa.specs.Linked.{IsLinkedOver, start_from, IsLinkedScan, CacheGrows, HasCleared, GrowsOrClears, IsMoved}
use Rattle.lazy_dfa.specs.MadeScans.{span_len, IsScanReported, MakesScan}
use Rattle.lazy_dfa.specs.Scans.{is_dead, index_at, index_before_offset, if_supported, start_name, first_value, scan, pass_from}
use Rattle.lazy_dfa.specs.ScanLaws.{units_read, scan_len_of, HasNoQuit}
use Rattle.lazy_dfa.specs.Points.{point}
use Rattle.lazy_dfa.specs.Readers.{HalfAnswer, found, is_quit}
use Rattle.lazy_dfa.specs.HalfSearches.{first_offset}
use Rattle.lazy_dfa.specs.HalfSearchLaws.{begins_at}
use Rattle.lazy_dfa.specs.SearchAnswers.{reported, give_up_offset, GivesUpIn, at_start, at_unit, ProgressValue, progress_of, scan_distance}
use Rattle.lazy_dfa.specs.SearchAnswers.{progress_by_scan}
use Rattle.lazy_dfa.specs.SearchAnswers.{running_at}
use Rattle.lazy_dfa.specs.SearchStarts.{error_at}
use Rattle.lazy_dfa.specs.ScanOffsets.{reports, first_index, progress_begun, progress_past, RestAnew, rest_inside, rest_untold, RestFails}
use Rattle.lazy_dfa.specs.ScanOffsets.{fails_at}
use Rattle.lazy_dfa.specs.ScanOffsets.{fails_untold, IsRestReported, RunsOn, scan_start, StartsScan}
use Rattle.lazy_dfa.specs.StartCalls.{mode_of, rejected_by_quit, rejected_by_byte, rejected_mode, rejected_start, start_slot, start_noted}
use Rattle.lazy_dfa.specs.StartCalls.{IsStartKnown}
use Rattle.lazy_dfa.specs.Steps.{Grew, WasCleared, most_inserts}
use Rattle.lazy_dfa.specs.Changes.{Changes, unchanged, IsMadeAt, IsMadeFirst, IsMadeIn}
use Rattle.lazy_dfa.proofs.CacheChanges.ChangesLemmas.{changes_into, changes_more, changes_on, changes_moved, changes_from_moved}
use Rattle.lazy_dfa.proofs.CacheChanges.ChangesLemmas.{start_changes}
use Rattle.lazy_dfa.proofs.Courses.AnewToldLemmas.{fresh_anew}
use Rattle.lazy_dfa.proofs.CacheChanges.IsCacheLemmas.{row_is_plain}
use Rattle.lazy_dfa.proofs.CacheChanges.LinkedLemmas.{grows_trans, grew_grows, has_cleared, start_grows_of, cleared_grows}
use Rattle.lazy_dfa.proofs.CacheChanges.LinkedLemmas.{grows_or_clears_trans}
use Rattle.lazy_dfa.proofs.CacheChanges.LinkedLemmas.{moved_trans, moved_same, names_moved, grows_moved, linked_moved, linked_none}
use Rattle.lazy_dfa.proofs.CacheChanges.LinkedLemmas.{held_named}
use Rattle.lazy_dfa.proofs.Courses.PassEndLemmas.{ends_dead}
use Rattle.lazy_dfa.proofs.HalfSearches.PassQuitLemmas.{reads_all}
use Rattle.lazy_dfa.proofs.Courses.PassStartLemmas.{named_alike, starts_dead, pass_told}
use Rattle.lazy_dfa.proofs.Courses.PointLemmas.{held_known}
use Rattle.lazy_dfa.proofs.CacheChanges.StartCallLemmas.{mode_fine}
use Rattle.lazy_dfa.proofs.HalfSearches.TurnLemmas.{goes_on, goes_in_mode, one_failed}

none_or_not : {X : Type 0} (o : Option X) → (o ≡ None) ⊎ (o ≢ None)
none_or_not None = inl refl
none_or_not (Some x) = inr (λ e. absurd cc)

none_or_some : (o : Option ℕ) → (o ≡ None) ⊎ ((p : ℕ) × (o ≡ Some p))
none_or_some None = inl refl
none_or_some (Some p) = inr (p, refl)

on_ok : {A B X Y : Type 0} (r : Result A B) → (X → Y) → OnOk r X → OnOk r Y
on_ok (Ok a) f x = f x
on_ok (Err e) f x = tt

abbrev are_same : Result ℕ MatchErrorKind → Result ℕ MatchErrorKind → Type 0
are_same r s = r ≡ s

one_ok : (a b : ℕ) → are_same (Ok a) (Ok b) → a ≡ b
one_ok a b e = cc

-- ---- what a scan reports

no_zero : (n : ℕ) → 0 < n → (n == 0) ≡ false
no_zero n l = ⊎_elim
    (λ (e : (n == 0) ≡ true). let z = eqb-true n 0 e in absurd (omega (arith, l, z)))
    (λ (e : (n == 0) ≡ false). e)
    (cases_Bool (n == 0))

none_left : (s e : ℕ) → nat_le e s ≡ (e - s == 0)
none_left s e = ⊎_elim
    (λ (p : (nat_le e s ≡ true) × (e ≤ s)). let l = p.1 in let z : e - s ≡ 0 = omega (arith, l) in p.0 ∙ sym (ap (λ (n : ℕ). n == 0) z))
    (λ (p : (nat_le e s ≡ false) × (s < e)). let l = p.1 in p.0 ∙ sym (no_zero (e - s) (omega (arith, l))))
    (leb_tells e s)

pub min_twice : (a k g : ℕ) → min (min a g + k) g ≡ min (a + k) g
min_twice a k g = ⊎_elim
    (λ (l : a < g). ap (λ (n : ℕ). min (n + k) g) (min-eq_left (omega (arith, l))))
    (λ (l : g ≤ a).
    ap (λ (n : ℕ). min (n + k) g) (min-eq_right l) ∙ (min-eq_right (omega arith) ∙ sym (min-eq_right (omega (arith, l)))))
    (cases_lt a g)

abbrev begun : ℕ → ProgressValue → ProgressValue
begun at t = record { searched = min (t.searched + progress_len t.progress) greatest; progress = Some (record { start = at; at = at }) }

abbrev ended : ℕ → ℕ → ProgressValue
ended searched k = record { searched = min (searched + k) greatest; progress = None }

parts_told : (none : Bool) (t : ProgressValue) (at k : ℕ) →
    (if none then (if not none then begun at t else t) else ended (if not none then begun at t else t).searched k) ≡
    (if none then t else ended (t.searched + progress_len t.progress) k)
parts_told true t at k = refl
parts_told false t at k = ap (λ (n : ℕ). record { searched = n; progress = None })
    (min_twice (t.searched + progress_len t.progress) k greatest)

-- what a scan reports at its start and at its end, together
whole_told : (is_reverse : Bool) (q : Search) (t : ProgressValue) (units : ℕ) →
    progress_past is_reverse (span_len q) (progress_begun is_reverse q t) units ≡
    (if is_reverse && span_len q == 0 then t else ended (t.searched + progress_len t.progress)
    (scan_distance is_reverse (span_len q) units))
whole_told is_reverse q t units =
    ap (λ (b : Bool). progress_past is_reverse (span_len q) (if not (is_reverse && b) then begun (first_index is_reverse q) t else t) units)
    (none_left q.start q.end)
    ∙ parts_told (is_reverse && span_len q == 0) t (first_index is_reverse q) (scan_distance is_reverse (span_len q) units)

-- what a scan reports at its start, by its bytes and its first offset
told_first : (is_reverse : Bool) (q : Search) (t : ProgressValue) → progress_begun is_reverse q t ≡ progress_from is_reverse (
  span_len q,
  first_offset is_reverse q.start q.end,
) t
told_first is_reverse q t =
    ap (λ (b : Bool). if not (is_reverse && b) then begun (first_index is_reverse q) t else t) (none_left q.start q.end)
    ∙ turned_round (is_reverse && span_len q == 0)
  where
    turned_round : (b : Bool) → (if not b then begun (first_index is_reverse q) t else t) ≡ (if b then t
        else begun (first_index is_reverse q) t)
    turned_round true = refl
    turned_round false = refl

-- ---- dead IDs

eqb_of : (n : ℕ) → n ≡ 1 → (n == 1) ≡ true
eqb_of n e = ap (λ (m : ℕ). m == 1) e

no_tag : (id : ℕ) → id < 0x2000_0000 → has_tag dead_tag id ≡ true → ⊥
no_tag id l e = let f : (id / dead_tag) % 2 ≡ 1 = eqb-true ((id / dead_tag) % 2) 1 e in omega (arith, l, f)

-- an ID with the tag of the dead state names that state
pub dead_named : (v : CacheValue) (id : ℕ) (s : StateValue) → IsShaped v → has_tag dead_tag id ≡ true → Names v id s → is_dead s ≡ true
dead_named v id s i e (names_dead f g) = ap is_dead g
dead_named v id s i e (names_held h) = absurd (no_tag id (row_is_plain v id h.0 i h.1 h.2) e)

-- an ID without that tag names the state of a row
pub row_named : (d : Dfa) (v w : CacheValue) (id : ℕ) (s : StateValue) → IsShaped v → IsMoved v w → has_tag dead_tag id ≡ false →
    Names v id s → HeldAt w id s
row_named d v w id s i moved e n = by (names_moved d v w moved id s n)
  where
    untagged : id ≡ dead_id v.stride → has_tag dead_tag id ≡ true
    untagged f = eqb_of ((id / dead_tag) % 2) (omega (arith, f, i.narrow))

    by : Names w id s → HeldAt w id s
    by (names_held h) = h
    by (names_dead f g) = absurd (true≢false (sym (untagged (f ∙ ap dead_id (ap (λ (x : CacheValue). x.stride) moved))) ∙ e))

-- ---- starts

module _ (d : Dfa) (mode : Anchored) (h : List ℕ) (i : ℕ) where
  abbrev told_start : StartValue
  told_start = start_from (reader d) mode h i

  quiet_behind : (o : Option ℕ) (rest : Option StartError) → rejected_by_byte d o rest ≡ None → is_quit d.quits o ≡ false
  quiet_behind None rest e = refl
  quiet_behind (Some b) rest e = by (is_quit d.quits (Some b)) refl e
    where
      by : (quits : Bool) → is_quit d.quits (Some b) ≡ quits → rejected_by_quit quits b rest ≡ None → is_quit d.quits (Some b) ≡ false
      by true is e = absurd cc
      by false is e = is

  fits_mode : (fit : Bool) → (if fit then None else Some (UnsupportedAnchored mode)) ≡ None → fit ≡ true
  fits_mode true e = refl
  fits_mode false e = absurd cc

  is_fit : rejected_start d told_start ≡ None → is_supported (starts_each_of d.options) mode ≡ true
  is_fit none = fits_mode (is_supported (starts_each_of d.options) mode) (mode_fine d told_start none)

  -- a scan whose start isn't rejected goes on from its first state
  plain_pass : (earliest : Bool) (n : ℕ) → rejected_start d told_start ≡ None →
      scan (reader d) mode earliest h n i ≡ pass_from (reader d) earliest h (suc n) i (first_value (reader d) mode h i) None
  plain_pass earliest n none =
      goes_on d.quits (unit_before d.nfa.automaton.reverse h i) (index_before_offset d.nfa.automaton.reverse i)
      (if_supported (is_supported (starts_each_of d.options) mode) mode
      (pass_from (reader d) earliest h (suc n) i (first_value (reader d) mode h i) None))
      (quiet_behind (unit_before d.nfa.automaton.reverse h i) (rejected_mode d mode) none)
      ∙ goes_in_mode (is_supported (starts_each_of d.options) mode) mode
      (pass_from (reader d) earliest h (suc n) i (first_value (reader d) mode h i) None) (is_fit none)

  plain_len : (earliest : Bool) (n : ℕ) → rejected_start d told_start ≡ None →
      units_read (reader d) earliest h (suc n) i (first_value (reader d) mode h i) ≡ scan_len_of (reader d) mode earliest h n i
  plain_len earliest n none = reads_all (reader d) mode earliest h n i (is_fit none)

  dead_first : start_in d (mode_of mode) ≡ None → first_value (reader d) mode h i ≡ dead
  dead_first e = starts_dead d (unit_before d.nfa.automaton.reverse h i) (start_name d.nfa.automaton mode) (sym (named_alike d mode) ∙ e)

  -- a scan whose path is known makes nothing at its start
  pub linked_start : (v : CacheValue) (earliest : Bool) (n : ℕ) → IsLinkedScan d v mode earliest h n i → IsStartKnown d v told_start
  linked_start v earliest n linked = ⊎_elim
      (λ (none : rejected_start d told_start ≡ None). ⊎_elim
      (λ (e : start_in d (mode_of mode) ≡ None). inr (inl e))
      (λ (s : (p : ℕ) × (start_in d (mode_of mode) ≡ Some p)). inr (inr (linked s.0 none s.1).start))
      (none_or_some (start_in d (mode_of mode))))
      (λ (some : rejected_start d told_start ≢ None). inl some)
      (none_or_not (rejected_start d told_start))

-- the cost of a scan if its start and each of its units make a state
one_more : (a b c k m : ℕ) → b ≤ a + m → c ≤ b + k * m → c ≤ a + suc k * m
one_more a b c k m f g = let e = suc-mul k m in omega (arith, e, f, g)

one_at_most : (a b k m : ℕ) → b ≤ a + m → b ≤ a + suc k * m
one_at_most a b k m f = let e = suc-mul k m in omega (arith, e, f)

-- ---- a start that is rejected

-- after a start that clears the cache, nothing is counted
pub fresh_start : (old new : CacheValue) → WasCleared old new 1 → IsFresh (progress_of new)
fresh_start old new w = fresh_anew (progress_of old) (progress_of new) (λ i. record { searched = w.searched i; progress = w.progress i })

pub same_told : (d : Dfa) (a b : CacheValue) → Grew d a b → progress_of b ≡ progress_of a
same_told d a b g = λ n. record { searched = g.searched n; progress = g.progress n }

-- if a start is rejected whatever the cache holds, the cause is the byte before it or the mode
abbrev IsRefusedFor : Anchored → Option ℕ → StartError → Type 0
IsRefusedFor mode o x = ((b : ℕ) × (o ≡ Some b) × (x ≡ Quit b)) ⊎ (x ≡ UnsupportedAnchored mode)

mode_is : (fit : Bool) (mode : Anchored) (x : StartError) → (if fit then None else Some (UnsupportedAnchored mode)) ≡ Some x →
    x ≡ UnsupportedAnchored mode
mode_is true mode x e = absurd cc
mode_is false mode x e = cc

refused_for : (d : Dfa) (mode : Anchored) (o : Option ℕ) (x : StartError) → rejected_by_byte d o (rejected_mode d mode) ≡ Some x →
    IsRefusedFor mode o x
refused_for d mode None x e = inr (mode_is (is_supported (starts_each_of d.options) mode) mode x e)
refused_for d mode (Some b) x e = by (is_quit d.quits (Some b)) e
  where
    by : (quits : Bool) → rejected_by_quit quits b (rejected_mode d mode) ≡ Some x → IsRefusedFor mode (Some b) x
    by true e = inl (b, refl, cc)
    by false e = inr (mode_is (is_supported (starts_each_of d.options) mode) mode x e)

first_error : (d : Dfa) (v : CacheValue) (mode : Anchored) (h : List ℕ) (i : ℕ) (x : StartError) →
    IsRefusedFor mode (unit_before d.nfa.automaton.reverse h i) x →
    FailsFirst d v mode h i (error_at (index_before_offset d.nfa.automaton.reverse i) i x)
first_error d v mode h i x (inl (b, unit, is)) =
    subst (λ (y : StartError). FailsFirst d v mode h i (error_at (index_before_offset d.nfa.automaton.reverse i) i y)) (sym is) (unit, refl)
first_error d v mode h i x (inr is) =
    subst (λ (y : StartError). FailsFirst d v mode h i (error_at (index_before_offset d.nfa.automaton.reverse i) i y)) (sym is) tt

module _ (d : Dfa) (q : Search) (old new : CacheValue) (m1 m2 n1 n2 : ℕ) (e : MatchErrorKind)
    (start : StartsScan d q old new m1 m2 n1 n2 (Err e)) (own : IsCacheOf d old) where
  abbrev at : ℕ
  at = begins_at (reader d) q

  abbrev whole : HalfAnswer
  whole = scan (reader d) q.anchored q.earliest q.haystack (span_len q) at

  abbrev length : ℕ
  length = scan_len_of (reader d) q.anchored q.earliest q.haystack (span_len q) at

  pub refused_first : FailsFirst d new q.anchored q.haystack at e
  refused_first = ⊎_elim
      (λ (x : (rejected_start d (scan_start d q) ≢ None) × (Err e ≡ reported whole)). by (rejected_start d (scan_start d q)) refl x.0 x.1)
      (λ (x : (e ≡ SearchNoMemory) ⊎ ((e ≡ GaveUp at) × (has_no_room d new (first_value (reader d) q.anchored q.haystack at) ≡ true) ×
      (rejected_start d (scan_start d q) ≡ None))).
      ⊎_elim
      (λ (f : e ≡ SearchNoMemory). subst (FailsFirst d new q.anchored q.haystack at) (sym f) tt)
      (λ (f : (e ≡ GaveUp at) × (has_no_room d new (first_value (reader d) q.anchored q.haystack at) ≡ true) ×
      (rejected_start d (scan_start d q) ≡ None)). subst
      (FailsFirst d new q.anchored q.haystack at) (sym f.0) (refl, f.1))
      x)
      start.err
    where
      by : (o : Option StartError) → rejected_start d (scan_start d q) ≡ o → rejected_start d (scan_start d q) ≢ None →
          Err e ≡ reported whole →
          FailsFirst d new q.anchored q.haystack at e
      by None f some is = absurd (some f)
      by (Some x) f some is =
          let same : e ≡ error_at (index_before_offset d.nfa.automaton.reverse at) at x =
          one_failed e (error_at (index_before_offset d.nfa.automaton.reverse at) at x)
          (is ∙ sym (pass_told d (unit_before d.nfa.automaton.reverse q.haystack at) q.anchored (index_before_offset
          d.nfa.automaton.reverse at) at
          (pass_from (reader d) q.earliest q.haystack (suc (span_len q)) at (first_value (reader d) q.anchored q.haystack at) None) x f)) in
          subst (FailsFirst d new q.anchored q.haystack at) (sym same) (first_error d new q.anchored q.haystack at x
          (refused_for d q.anchored (unit_before d.nfa.automaton.reverse q.haystack at) x f))

  pub refused_pass : MakesScan d q old new m1 m2 n1 n2 (Err e)
  refused_pass = record {
    answer = ⊎_elim
        (λ (x : (rejected_start d (scan_start d q) ≢ None) × (Err e ≡ reported whole)). inl x.1)
        (λ (x : (e ≡ SearchNoMemory) ⊎ ((e ≡ GaveUp at) × (has_no_room d new (first_value (reader d) q.anchored q.haystack at) ≡ true) ×
        (rejected_start d (scan_start d q) ≡ None))). inr
        (⊎_elim
        (λ (f : e ≡ SearchNoMemory). inl (ap Err f))
        (λ (f : (e ≡ GaveUp at) × (has_no_room d new (first_value (reader d) q.anchored q.haystack at) ≡ true) ×
        (rejected_start d (scan_start d q) ≡ None)). inr (
          at,
          ap Err f.0,
          at_start refl f.1 f.2,
        ))
        x))
        start.err;
    kept = start_grows_of d old new start.kept;
    follows = tt;
    free = λ linked.
        let known = linked_start d q.anchored q.haystack at old q.earliest (span_len q) linked in
        let same = start.same known in
        (moved_same old new same.0, same.1, same.2, start.refused known);
    determinized = let l = start.determinized in omega (arith, l);
    inserted = one_at_most n1 n2 length (most_inserts d) start.inserted;
    anew = ⊎_elim
        (λ (g : Grew d old new). inl (left_first refused_first (same_told d old new g), g.clears))
        (λ (w : WasCleared old new 1). inr (
          has_cleared old new 1 w,
          fails_first (progress_of new) (fresh_start old new w)
              (left_first refused_first refl),
        ))
        start.kept;
    changes = changes_more d (IsMadeIn d q.anchored q.earliest q.haystack (span_len q, at)) old new 1 (suc length) (omega arith)
        (start_changes d q.anchored q.haystack at (IsMadeIn d q.anchored q.earliest q.haystack (span_len q, at))
        (λ (b : Bool) (o : Option StateValue) (s : StateValue) (x : IsMadeFirst d q.anchored q.haystack at b o s). inl x) old new own
        start.adds);
  }

-- ---- a start that returns an ID

module _ (d : Dfa) (q : Search) (old mid : CacheValue) (m1 m n1 n id : ℕ) (made : IsDfa d) (own : IsCacheOf d old) (mine : IsCacheOf d mid)
    (start : StartsScan d q old mid m1 m n1 n (Ok id)) where
  abbrev from : ℕ
  from = begins_at (reader d) q

  abbrev first : StateValue
  first = first_value (reader d) q.anchored q.haystack from

  abbrev units : ℕ
  units = units_read (reader d) q.earliest q.haystack (suc (span_len q)) from first

  abbrev rest : HalfAnswer
  rest = pass_from (reader d) q.earliest q.haystack (suc (span_len q)) from first None

  abbrev all : ℕ
  all = scan_len_of (reader d) q.anchored q.earliest q.haystack (span_len q) from

  is_rest : scan (reader d) q.anchored q.earliest q.haystack (span_len q) from ≡ rest
  is_rest = plain_pass d q.anchored q.haystack from q.earliest (span_len q) start.start.0

  same_len : units ≡ all
  same_len = plain_len d q.anchored q.haystack from q.earliest (span_len q) start.start.0

  id_known : id ≢ unknown_id
  id_known = held_known mid id mine.shape (held_named mid id first start.start.1)

  module _ (here new : CacheValue) (m2 n2 : ℕ) (result : Result (Option HalfFound) MatchErrorKind) (moved : IsMoved mid here)
      (tells_start : progress_of here ≡ progress_begun d.nfa.automaton.reverse q (progress_of mid))
      (runs : RunsOn d q first (point here m n from id None) new m2 n2 result) where
    from_mid : GrowsOrClears d mid new
    from_mid = grows_or_clears_trans d mid here new made mine (inl (grows_moved d mid here moved)) runs.kept

    linked_behind : CacheGrows d mid new → IsLinkedOver d new q.haystack from id units →
        IsLinkedScan d new q.anchored q.earliest q.haystack (span_len q) from
    linked_behind grows linked p none named =
        let slot : start_noted d mid (scan_start d q) ≡ id = start.noted p named in
        let noted : start_noted d new (scan_start d q) ≡ id = grows.starts (start_slot d (scan_start d q)) (λ z. id_known (sym slot ∙ z))
        ∙ slot in
        subst (λ (x : ℕ). IsLinkedOver d new q.haystack from x all) (sym noted)
        (subst (IsLinkedOver d new q.haystack from id) same_len linked)

    told_behind_mid : progress_of new ≡ progress_past d.nfa.automaton.reverse (span_len q) (progress_of here) units →
        progress_of new ≡ progress_by_scan (reader d) q.anchored q.earliest q.haystack (progress_of mid) (span_len q, from)
    told_behind_mid e =
        e
        ∙ (ap (λ (t : ProgressValue). progress_past d.nfa.automaton.reverse (span_len q) t units) tells_start
        ∙ (whole_told d.nfa.automaton.reverse q (progress_of mid) units
        ∙ ap (λ (k : ℕ). if d.nfa.automaton.reverse && span_len q == 0 then progress_of mid
        else ended (mid.searched + progress_len mid.progress) (scan_distance d.nfa.automaton.reverse (span_len q) k)) same_len))

    told_behind_all : Grew d old mid → progress_of new ≡ progress_past d.nfa.automaton.reverse (span_len q) (progress_of here) units →
        progress_of new ≡ progress_by_scan (reader d) q.anchored q.earliest q.haystack (progress_of old) (span_len q, from)
    told_behind_all g e =
        told_behind_mid e ∙ ap (λ (t : ProgressValue). progress_by_scan (reader d) q.anchored q.earliest q.haystack t (span_len q, from))
        (same_told d old mid g)

    abbrev Followed : Type 0
    Followed = CacheGrows d here new × IsLinkedOver d new q.haystack from id units ×
        (progress_of new ≡ progress_past d.nfa.automaton.reverse (span_len q) (progress_of here) units)

    abbrev FollowedPass : Type 0
    FollowedPass = CacheGrows d old new × IsLinkedScan d new q.anchored q.earliest q.haystack (span_len q) from ×
        (progress_of new ≡ progress_by_scan (reader d) q.anchored q.earliest q.haystack (progress_of old) (span_len q, from))

    followed : Grew d old mid → Followed → FollowedPass
    followed g f =
        let grows = grows_trans d mid here new made mine (grows_moved d mid here moved) f.0 in
        (grows_trans d old mid new made own (grew_grows d old mid g) grows, linked_behind grows f.1, told_behind_all g f.2)

    -- a clear at the start or after it
    clear_first : WasCleared old mid 1 → HasCleared old new
    clear_first w = cleared_grows d old mid new (has_cleared old mid 1 w) from_mid

    clear_later : Grew d old mid → HasCleared here new → HasCleared old new
    clear_later g x =
        subst (λ (n : ℕ). min (n + 1) greatest ≤ new.clears) ((grows_moved d mid here moved).clears ∙ g.clears) x

    followed_or_cleared : Followed ⊎ HasCleared here new → FollowedPass ⊎ HasCleared old new
    followed_or_cleared f = ⊎_elim
        (λ (g : Grew d old mid). ⊎_elim (λ (x : Followed). inl (followed g x)) (λ (x : HasCleared here new). inr (clear_later g x)) f)
        (λ (w : WasCleared old mid 1). inr (clear_first w))
        start.kept

    -- the progress, whether the cache was cleared or not
    abbrev p : ℕ × ℕ
    p = (span_len q, from)

    abbrev Before : Type 0
    Before = HasCleared old new

    cleared_here : HasCleared here new → Before
    cleared_here c = ⊎_elim (λ (g : Grew d old mid). clear_later g c) (λ (w : WasCleared old mid 1). clear_first w) start.kept

    clears_here : Grew d old mid → new.clears ≡ here.clears → new.clears ≡ old.clears
    clears_here g e = e ∙ ((grows_moved d mid here moved).clears ∙ g.clears)

    nothing_told : (t : ProgressValue) → reports d.nfa.automaton.reverse q ≡ false → (d.nfa.automaton.reverse && span_len q == 0) ≡ true
    nothing_told t e = ap (λ (b : Bool). d.nfa.automaton.reverse && b) (sym (none_left q.start q.end))
        ∙ not_no (d.nfa.automaton.reverse && nat_le q.end q.start) e
      where
        not_no : (b : Bool) → not b ≡ false → b ≡ true
        not_no true e = refl
        not_no false e = absurd (true≢false e)

    pass_anew : RestAnew d.nfa.automaton.reverse q units (progress_of new) →
        ReportsAnew (reader d) q.anchored q.earliest q.haystack p (progress_of new)
    pass_anew (rest_inside a l e) =
        cleared_inside a (subst (λ (k : ℕ). a ≤ scan_distance d.nfa.automaton.reverse (span_len q) k) same_len l)
        (e ∙ ap (cut_progress d.nfa.automaton.reverse (span_len q) a) same_len)
    pass_anew (rest_untold tell fresh) =
        cleared_first (progress_of new) fresh
        (sym (ap (λ (b : Bool). if b then progress_of new else ended (new.searched + progress_len new.progress)
        (scan_distance d.nfa.automaton.reverse (span_len q) all)) (nothing_told (progress_of new) tell)))

    told_ok : (f : Option HalfFound) → IsRestReported d q first from (Ok f) here new →
        IsScanReported d q.anchored q.earliest q.haystack p (Ok f) old new
    told_ok f (inl e) = ⊎_elim
        (λ (g : Grew d old mid). inl (told_behind_all g e.0, clears_here g e.1))
        (λ (w : WasCleared old mid 1). inr (clear_first w, cleared_first (progress_of mid) (fresh_start old mid w) (told_behind_mid e.0)))
        start.kept
    told_ok f (inr c) = inr (cleared_here c.0, pass_anew c.1)

    module _ (e : MatchErrorKind) (k : ℕ) (less : k < units) (at : FailsAtUnit d new q.haystack first (span_len q) from k e) where
      less_all : k < all
      less_all = subst (λ (n : ℕ). k < n) same_len less

      left_from : (t : ProgressValue) → LeftAt d.nfa.automaton.reverse (is_quit_error e) (span_len q) from k (progress_from
          d.nfa.automaton.reverse p t)
          (progress_of new) →
          LeavesScan d q.anchored q.earliest q.haystack p e t new
      left_from t l = left_at_unit k less_all at l

      begun_mid : progress_of here ≡ progress_from d.nfa.automaton.reverse p (progress_of mid)
      begun_mid = tells_start ∙ told_first d.nfa.automaton.reverse q (progress_of mid)

      abbrev Left : ProgressValue → Type 0
      Left t = LeftAt d.nfa.automaton.reverse (is_quit_error e) (span_len q) from k t (progress_of new)

      fails_so : RestFails d.nfa.automaton.reverse (is_quit_error e) q from k (progress_of new) →
          FailsAnew d q.anchored q.earliest q.haystack p e new
      fails_so (fails_at cut) = fails_inside k less_all at cut
      fails_so (fails_untold tell fresh l) =
          fails_first (progress_of new) fresh (left_from (progress_of new) (subst Left
          (sym (ap (λ (b : Bool). if b then progress_of new else begun (index_at d.nfa.automaton.reverse from) (progress_of new))
          (nothing_told (progress_of new) tell))) l))

      told_err : (LeftAt d.nfa.automaton.reverse (is_quit_error e) (span_len q) from k (progress_of here) (progress_of new) ×
          (new.clears ≡ here.clears)) ⊎
          (HasCleared here new × RestFails d.nfa.automaton.reverse (is_quit_error e) q from k (progress_of new)) →
          IsScanReported d q.anchored q.earliest q.haystack p (Err e) old new
      told_err (inl l) = ⊎_elim
          (λ (g : Grew d old mid). inl (
            left_from (progress_of old) (subst Left (begun_mid ∙ ap (progress_from d.nfa.automaton.reverse p) (same_told d old mid g)) l.0),
            clears_here g l.1,
          ))
          (λ (w : WasCleared old mid 1). inr (
            clear_first w,
            fails_first (progress_of mid) (fresh_start old mid w)
                (left_from (progress_of mid) (subst Left begun_mid l.0)),
          ))
          start.kept
      told_err (inr c) = inr (cleared_here c.0, fails_so c.1)

    told_anew_pass : (r : Result (Option HalfFound) MatchErrorKind) → IsRestReported d q first from r here new →
        IsScanReported d q.anchored q.earliest q.haystack p r old new
    told_anew_pass (Ok f) x = told_ok f x
    told_anew_pass (Err e) x = told_err e x.0 x.1 x.2 x.3

    -- if the path was known
    known_path : IsMoved old here → IsLinkedScan d old q.anchored q.earliest q.haystack (span_len q) from →
        IsLinkedOver d here q.haystack from id units
    known_path still linked = ⊎_elim
        (λ (e : start_in d (mode_of q.anchored) ≡ None).
        let gone = ap is_dead (dead_first d q.anchored q.haystack from e) in
        let nothing = ends_dead (reader d) q.earliest q.haystack from first 0 (suc (span_len q)) None (omega arith)
        (λ k l. absurd (omega (arith, l))) (λ k l. absurd (omega (arith, l))) gone in
        subst (IsLinkedOver d here q.haystack from id) (sym nothing.1) (linked_none d here q.haystack from id id_known))
        (λ (s : (p : ℕ) × (start_in d (mode_of q.anchored) ≡ Some p)).
        let path = linked s.0 start.start.0 s.1 in
        let same : id ≡ start_noted d old (scan_start d q) = one_ok id (start_noted d old (scan_start d q))
        (start.known s.0 start.start.0 s.1 path.start) in
        linked_moved d old here still q.haystack from id units
        (subst (λ (x : ℕ). IsLinkedOver d old q.haystack from x units) (sym same)
        (subst (IsLinkedOver d old q.haystack from (start_noted d old (scan_start d q))) (sym same_len) path)))
        (none_or_some (start_in d (mode_of q.anchored)))

    free_pass : IsLinkedScan d old q.anchored q.earliest q.haystack (span_len q) from →
        IsMoved old new × (m2 ≡ m1) × (n2 ≡ n1) × (result ≡ reported (scan (reader d) q.anchored q.earliest q.haystack (span_len q) from))
    free_pass linked =
        let same = start.same (linked_start d q.anchored q.haystack from old q.earliest (span_len q) linked) in
        let still = moved_trans old mid here (moved_same old mid same.0) moved in
        let f = runs.free (known_path still linked) in
        (moved_trans old here new still f.0, f.1 ∙ same.1, f.2 ∙ same.2, f.3 ∙ ap reported (sym is_rest))

    answered : (result ≡ reported (scan (reader d) q.anchored q.earliest q.haystack (span_len q) from)) ⊎ (result ≡ Err SearchNoMemory) ⊎
        ((x : ℕ) × (result ≡ Err (GaveUp x)) × GivesUpIn d new q.anchored q.earliest q.haystack (span_len q) from x)
    answered = ⊎_elim
        (λ (e : result ≡ reported rest). inl (e ∙ ap reported (sym is_rest)))
        (λ (e : (result ≡ Err SearchNoMemory) ⊎ ((x k : ℕ) × (result ≡ Err (GaveUp x)) × (k < units) ×
        (x ≡ give_up_offset d.nfa.automaton.reverse (span_len q) from k) ×
        (has_no_room d new (state_after (reader d) q.haystack from first (suc k)) ≡ true) ×
        (k < span_len q → running_at new.progress ≡ Some x) × HasNoQuit (reader d) q.haystack from (suc k))).
        inr (⊎_elim
        (λ (f : result ≡ Err SearchNoMemory). inl f)
        (λ (g : (x k : ℕ) × (result ≡ Err (GaveUp x)) × (k < units) ×
        (x ≡ give_up_offset d.nfa.automaton.reverse (span_len q) from k) ×
        (has_no_room d new (state_after (reader d) q.haystack from first (suc k)) ≡ true) ×
        (k < span_len q → running_at new.progress ≡ Some x) × HasNoQuit (reader d) q.haystack from (suc k)).
        inr (g.0, g.2, at_unit g.1 (subst (λ (l : ℕ). g.1 < l) same_len g.3) g.4 g.5 g.6 start.start.0 g.7))
        e))
        runs.answer

    pub makes_pass : MakesScan d q old new m1 m2 n1 n2 result
    makes_pass = record {
      answer = answered;
      kept = grows_or_clears_trans d old mid new made own (start_grows_of d old mid start.kept) from_mid;
      follows = on_ok result followed_or_cleared runs.follows;
      free = free_pass;
      determinized = let a = start.determinized in let b = runs.determinized in let l = same_len in omega (arith, a, b, l);
      inserted = one_more n1 n n2 all (most_inserts d) start.inserted (subst
          (λ (k : ℕ). n2 ≤ n + k * most_inserts d) same_len runs.inserted);
      anew = told_anew_pass result runs.anew;
      changes = changes_on d (IsMadeIn d q.anchored q.earliest q.haystack (span_len q, from)) old mid 1
          (start_changes d q.anchored q.haystack from (IsMadeIn d q.anchored q.earliest q.haystack (span_len q, from))
          (λ (b : Bool) (o : Option StateValue) (s : StateValue) (x : IsMadeFirst d q.anchored q.haystack from b o s). inl x) old mid own
          start.adds)
          new all (suc all) (omega arith)
          (changes_into d (IsMadeAt (reader d) q.haystack from first all)
          (IsMadeIn d q.anchored q.earliest q.haystack (span_len q, from))
          (λ (b : Bool) (o : Option StateValue) (s : StateValue) (x : IsMadeAt (reader d) q.haystack from first all b o s). inr x) mid new
          all
          (subst (λ (k : ℕ). Changes d (IsMadeAt (reader d) q.haystack from first k) mid new k) same_len
          (changes_from_moved d (IsMadeAt (reader d) q.haystack from first units) mid here new units moved runs.changes)));
    }

  abbrev here : CacheValue
  here = record mid {
    searched = (progress_begun d.nfa.automaton.reverse q (progress_of mid)).searched;
    progress = (progress_begun d.nfa.automaton.reverse q (progress_of mid)).progress;
  }

  -- the first state is dead: nothing is read
  pub makes_dead_pass : (new : CacheValue) → has_tag dead_tag id ≡ true → IsMoved mid new →
      progress_of new ≡ progress_past d.nfa.automaton.reverse (span_len q) (progress_begun d.nfa.automaton.reverse q (progress_of mid)) 0 →
      MakesScan d q old new m1 m n1 n (Ok None)
  makes_dead_pass new tagged moved e =
      makes_pass here new m n (Ok None) refl refl (record {
        answer = inl is_none;
        kept = inl (grows_moved d here new still);
        follows = inl (
          grows_moved d here new still,
          subst (IsLinkedOver d new q.haystack from id) (sym nothing.1) (linked_none d new q.haystack from id id_known),
          e ∙ ap (progress_past d.nfa.automaton.reverse (span_len q) (progress_of here)) (sym nothing.1),
        );
        free = λ l. (still, refl, refl, is_none);
        determinized = omega arith;
        inserted = omega arith;
        anew = inl (
          e ∙ ap (progress_past d.nfa.automaton.reverse (span_len q) (progress_of here)) (sym nothing.1),
          (grows_moved d here new still).clears,
        );
        changes = changes_moved d (IsMadeAt (reader d) q.haystack from first units) here here new units still (unchanged here units refl);
      })
    where
      still : IsMoved here new
      still = moved

      gone : is_dead first ≡ true
      gone = dead_named mid id first mine.shape tagged start.start.1

      nothing : (rest ≡ found None) × (units ≡ 0)
      nothing = ends_dead (reader d) q.earliest q.haystack from first 0 (suc (span_len q)) None (omega arith)
          (λ k l. absurd (omega (arith, l))) (λ k l. absurd (omega (arith, l))) gone

      is_none : Ok None ≡ reported rest
      is_none = sym (ap reported nothing.0)

  -- these results for code that knows the direction of the scan
  module _ (is_reverse : Bool) (is : is_reverse ≡ d.nfa.automaton.reverse) (new : CacheValue) where
    pub goes_dead : has_tag dead_tag id ≡ true → IsMoved mid new → progress_of new ≡ progress_past is_reverse (span_len q)
        (progress_begun is_reverse q (progress_of mid)) 0 → MakesScan d q old new m1 m n1 n (Ok None)
    goes_dead tagged moved e =
        makes_dead_pass new tagged moved (subst (λ (b : Bool). progress_of new ≡
        progress_past b (span_len q) (progress_begun b q (progress_of mid)) 0) is
        e)

    pub goes_further : (here : CacheValue) (m2 n2 : ℕ) (result : Result (Option HalfFound) MatchErrorKind) → has_tag dead_tag id ≡ false →
        IsMoved mid here →
        progress_of here ≡ progress_begun is_reverse q (progress_of mid) →
        ((s : StateValue) → HeldAt here id s → RunsOn d q s (point here m n (first_offset is_reverse q.start q.end) id None) new m2 n2
        result) →
        MakesScan d q old new m1 m2 n1 n2 result
    goes_further here m2 n2 result untagged moved e runs =
        makes_pass here new m2 n2 result moved (subst (λ (b : Bool). progress_of here ≡ progress_begun b q (progress_of mid)) is e)
        (subst (λ (b : Bool). RunsOn d q first (point here m n (first_offset b q.start q.end) id None) new m2 n2 result) is
        (runs first (row_named d mid here id first mine.shape moved untagged start.start.1)))
