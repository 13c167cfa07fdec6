-- What a half search guarantees to its callers.
use Rattle.std.proofs.Common.{◌≡◌, ℕ, zero, suc, ◌+◌, ◌-◌, ◌*◌, ◌<◌, ◌≤◌, Bool, true, false, not, ◌&&◌, List, [], ◌∷◌, length, Option, Some}
use Rattle.std.proofs.Common.{None, refl, sym, ap, ◌∙◌, ◌⊎◌, inl, inr, subst, arith, if◌then◌else◌, true≢false}
use Rattle.std.specs.Bool.{nat_le}
use Rattle.std.specs.Prelude.{Result, Ok, Err, OnOk, IfOk, IfErr, is_none}
use Rattle.search_types.specs.declared.anchored.Anchored.{Anchored}
use Rattle.search_types.specs.declared.match_error.MatchErrorKind.{MatchErrorKind}
use Rattle.search_types.specs.declared.match_error.MatchErrorKind.TheVariants.{NoMemory}
use Rattle.search_types.specs.Found.{HalfFound}
use Rattle.search_types.specs.Inputs.{Search}
use Rattle.search_types.specs.Modes.{is_anchored, is_supported}
use Rattle.search_types.specs.Places.{counts}
use Rattle.determinize_core.specs.States.{StateValue}
use Rattle.lazy_dfa.specs.AnewProgress.{IsReportedSince}
use Rattle.lazy_dfa.specs.Caches.{CacheValue, greatest, row_holding, fits, is_clear_denied, has_no_room}
use Rattle.lazy_dfa.specs.ConfigValue.{clears_of, minimum_bytes_of}
use Rattle.lazy_dfa.specs.Courses.{state_after}
use Rattle.lazy_dfa.specs.Dfas.{Dfa, IsDfa, reader, is_dead}
use Rattle.lazy_dfa.specs.LeftProgress.{LeavesProgress}
use Rattle.lazy_dfa.specs.Linked.{CacheGrows, HasCleared, IsLinked, scans_on, scans_of}
use Rattle.lazy_dfa.specs.MadeScans.{IsSearchReported, MakesSearch}
use Rattle.lazy_dfa.specs.ScanLaws.{scan_len_of, splits}
use Rattle.lazy_dfa.specs.Scans.{next_offset, scan, first_value}
use Rattle.lazy_dfa.specs.Readers.{Reader, found}
use Rattle.lazy_dfa.specs.HalfSearchLaws.{begins_at, scans_made, units_in_scans, HasNoQuitNear}
use Rattle.lazy_dfa.specs.HalfSearches.{half_search}
use Rattle.lazy_dfa.specs.SearchAnswers.{pair_of, reported, GivesUpIn, at_start, at_unit, GivesUpAmong, Answers, progress_of}
use Rattle.lazy_dfa.specs.SearchAnswers.{progress_by}
use Rattle.lazy_dfa.specs.SearchAnswers.{made_by, FindsDownTo, FindsUpTo, FindsWanted, IsFoundDownTo, IsFoundUpTo}
use Rattle.lazy_dfa.specs.SearchPromises.{AnswersHalf, CountsHalf, LeavesCache, ReportsHalf, half_made}
use Rattle.lazy_dfa.specs.Steps.{most_inserts}
use Rattle.lazy_dfa.specs.Changes.{Changes, IsMadeBy}
use Rattle.lazy_dfa.proofs.Courses.AnswerLemmas.{ok_is_told, ok_is_found}
use Rattle.lazy_dfa.proofs.HalfSearches.HasReachLemmas.{finds_wanted, scan_has_reach, scan_has_reach_back}
use Rattle.lazy_dfa.proofs.CacheChanges.LinkedLemmas.{not_cleared}
use Rattle.lazy_dfa.proofs.HalfSearches.ScanLemmas.{scan_finds_near}

-- ---- how many states are made

module _ (r : Reader) (q : Search) where
  abbrev len_of : ℕ → ℕ → ℕ
  len_of n i = scan_len_of r q.anchored q.earliest q.haystack n i

  abbrev split : ℕ → ℕ → Bool
  split n i = splits (counts r.between_characters q.haystack) (scan r q.anchored q.earliest q.haystack n i)

  abbrev on : ℕ → ℕ → List (ℕ × ℕ)
  on n i = scans_on r q.anchored q.earliest q.haystack n i

  one_more : (b : Bool) (len made units : ℕ) (ps : List (ℕ × ℕ)) → made_by r q ps ≡ made + units →
      suc len + made_by r q (if b then ps else []) ≡ (if b then suc made else 1) + (if b then len + units else len)
  one_more true len made units ps is = omega (arith, is)
  one_more false len made units ps is = omega arith

  on_counted : (n i : ℕ) → made_by r q (on n i) ≡ scans_made r q.anchored q.earliest q.haystack n i + units_in_scans r q.anchored
      q.earliest q.haystack n i
  on_counted zero i = omega arith
  on_counted (suc n) i =
      one_more (split (suc n) i) (len_of (suc n) i) (scans_made r q.anchored q.earliest q.haystack n (next_offset r i))
      (units_in_scans r q.anchored q.earliest q.haystack n (next_offset r i)) (on n (next_offset r i)) (on_counted n (next_offset r i))

  by_mode : (begun once : Bool) (p : ℕ × ℕ) (len made units : ℕ) (ps : List (ℕ × ℕ)) → made_by r q (p ∷ []) ≡ 1 + len →
      made_by r q ps ≡ made + units →
      made_by r q (if begun then (if once then p ∷ [] else ps) else []) ≡
      (if begun then (if once then 1 else made) else 0) + (if begun then (if once then len else units) else 0)
  by_mode true true p len made units ps one all = one
  by_mode true false p len made units ps one all = all
  by_mode false once p len made units ps one all = refl

  made_is_counted : made_by r q (scans_of r q) ≡ half_made r q
  made_is_counted =
      by_mode (nat_le q.start q.end) (is_anchored q.anchored) (q.end - q.start, begins_at r q) (len_of (q.end - q.start) (begins_at r q))
      (scans_made r q.anchored q.earliest q.haystack (q.end - q.start) (begins_at r q))
      (units_in_scans r q.anchored q.earliest q.haystack (q.end - q.start) (begins_at r q)) (on (q.end - q.start) (begins_at r q))
      (omega arith) (on_counted (q.end - q.start) (begins_at r q))

-- ---- room

no_room_lacks : (o : Option ℕ) (a b c : Bool) (bytes : Option ℕ) (v : CacheValue) → o ≡ None →
    not a && (b && (c && is_clear_denied o bytes v)) ≡ false
no_room_lacks o a b c bytes v none =
    ap (λ (x : Option ℕ). not a && (b && (c && is_clear_denied x bytes v))) none ∙ none_of a b c
  where
    none_of : (a b c : Bool) → not a && (b && (c && false)) ≡ false
    none_of true b c = refl
    none_of false true true = refl
    none_of false true false = refl
    none_of false false c = refl

module _ (d : Dfa) (v : CacheValue) (none : clears_of d.options ≡ None) where
  -- if no least number of clears is set, there is always room
  pub has_room : (s : StateValue) → has_no_room d v s ≡ true → ⊥
  has_room s lacks = true≢false (sym lacks
      ∙ no_room_lacks (clears_of d.options) (is_dead s) (is_none (row_holding s v.states)) (not (fits d.capacity s v))
      (minimum_bytes_of d.options) v none)

  pub never_here : (mode : Anchored) (earliest : Bool) (h : List ℕ) (n i x : ℕ) → GivesUpIn d v mode earliest h n i x → ⊥
  never_here mode earliest h n i x (at_start place lacks free) = has_room (first_value (reader d) mode h i) lacks
  never_here mode earliest h n i x (at_unit k less place lacks runs free quits) =
      has_room (state_after (reader d) h i (first_value (reader d) mode h i) (suc k)) lacks

  pub never_among : (q : Search) (x : ℕ) (ps : List (ℕ × ℕ)) → GivesUpAmong d v q x ps → ⊥
  never_among q x [] g = g
  never_among q x (p ∷ ps) (inl g) = never_here q.anchored q.earliest q.haystack p.0 p.1 x g
  never_among q x (p ∷ ps) (inr g) = never_among q x ps g

-- ---- clauses

module _ {d : Dfa} {q : Search} {old new : CacheValue} {m1 m2 n1 n2 : ℕ} {result : Result (Option HalfFound) MatchErrorKind}
    (made : MakesSearch d q old new m1 m2 n1 n2 result) where
  abbrev HasNoMemory : Result (Option HalfFound) MatchErrorKind → Type 0
  HasNoMemory x = IfErr x (λ e. e ≡ NoMemory)

  sure_by : clears_of d.options ≡ None → (o : Option (ℕ × ℕ)) → half_search (reader d) q ≡ found o → Answers d new q result →
      HasNoMemory result
  sure_by none o is (inl e) = subst HasNoMemory (sym (e ∙ ap reported is)) tt
  sure_by none o is (inr (inl e)) = subst HasNoMemory (sym e) refl
  sure_by none o is (inr (inr g)) = absurd (never_among d new none q g.0 (scans_of (reader d) q) g.2)

  is_sure : clears_of d.options ≡ None → is_supported (reader d).starts_for_each_pattern q.anchored ≡ true →
      HasNoQuitNear (reader d) q.haystack q.start q.end → HasNoMemory result
  is_sure none supported quiet = let there = scan_finds_near (reader d) q supported quiet in sure_by none there.0 there.1 made.answer

  few_determinized : m2 ≤ m1 + half_made (reader d) q
  few_determinized = subst (λ (k : ℕ). m2 ≤ m1 + k) (made_is_counted (reader d) q) made.determinized

  few_inserted : n2 ≤ n1 + half_made (reader d) q * most_inserts d
  few_inserted = subst (λ (k : ℕ). n2 ≤ n1 + k * most_inserts d) (made_is_counted (reader d) q) made.inserted

  few_changes : Changes d (IsMadeBy d q) old new (half_made (reader d) q)
  few_changes = subst (Changes d (IsMadeBy d q) old new) (made_is_counted (reader d) q) made.changes

  abbrev HasFollowed : Type 0
  HasFollowed = CacheGrows d old new × IsLinked d new q × (progress_of new ≡
      progress_by (reader d) q (progress_of old) (scans_of (reader d) q))

  not_forgotten : HasFollowed ⊎ HasCleared old new → new.clears ≡ old.clears → old.clears < greatest → HasFollowed
  not_forgotten (inl f) same less = f
  not_forgotten (inr c) same less = absurd (not_cleared old new c same less)

  on_ok : (x : Result (Option HalfFound) MatchErrorKind) (A B : Type 0) → (A → B) → OnOk x A → OnOk x B
  on_ok (Ok f) A B g a = g a
  on_ok (Err e) A B g a = tt

  is_linked_then : OnOk result (new.clears ≡ old.clears → old.clears < greatest → IsLinked d new q)
  is_linked_then = on_ok result (HasFollowed ⊎ HasCleared old new) (new.clears ≡ old.clears → old.clears < greatest → IsLinked d new q)
      (λ kept same less. (not_forgotten kept same less).1) made.follows

  is_told_then : OnOk result (new.clears ≡ old.clears → old.clears < greatest →
      progress_of new ≡ progress_by (reader d) q (progress_of old) (scans_of (reader d) q))
  is_told_then = on_ok result (HasFollowed ⊎ HasCleared old new)
      (new.clears ≡ old.clears → old.clears < greatest → progress_of new ≡
      progress_by (reader d) q (progress_of old) (scans_of (reader d) q))
      (λ kept same less. (not_forgotten kept same less).2) made.follows

  is_left_then : IfErr result (λ e. new.clears ≡ old.clears → old.clears < greatest →
      LeavesProgress d q e (progress_of old) new)
  is_left_then = left result made.anew
    where
      left : (x : Result (Option HalfFound) MatchErrorKind) → IsSearchReported d q x old new →
          IfErr x (λ e. new.clears ≡ old.clears → old.clears < greatest → LeavesProgress d q e (progress_of old) new)
      left (Ok f) t = tt
      left (Err e) (inl l) = λ same less. l.0
      left (Err e) (inr c) = λ same less. absurd (not_cleared old new c.0 same less)

  is_told_since : (new.clears ≡ old.clears → ⊥) → IsReportedSince d q result new
  is_told_since other = since result made.anew
    where
      since : (x : Result (Option HalfFound) MatchErrorKind) → IsSearchReported d q x old new →
          IsReportedSince d q x new
      since (Ok f) (inl same) = absurd (other same.1)
      since (Ok f) (inr c) = c.1
      since (Err e) (inl same) = absurd (other same.1)
      since (Err e) (inr c) = c.1

  pub answers_half : AnswersHalf d q old new result
  answers_half = record { answer = made.answer; sure = is_sure; sure_if_linked = λ linked. (made.free linked).3 }

  pub leaves_cache : LeavesCache d q old new result
  leaves_cache = record { kept = made.kept; linked = is_linked_then; moved = λ linked. (made.free linked).0 }

  pub counts_half : CountsHalf d q old m1 m2 n1 n2
  counts_half = record {
    free = λ linked. ((made.free linked).1, (made.free linked).2);
    determinized = few_determinized;
    inserted = few_inserted;
  }

  pub reports_half : ReportsHalf d q old new result
  reports_half = record { reported = is_told_then; left_progress = is_left_then; told_since = is_told_since; changes = few_changes }

-- what a result that is no error found, forward or in reverse
found_where : (P : Option (ℕ × ℕ) → Type 0) (d : Dfa) (q : Search) (new : CacheValue)
    (result : Result (Option HalfFound) MatchErrorKind) →
    ((o : Option (ℕ × ℕ)) → half_search (reader d) q ≡ found o → P o) → Answers d new q result →
    IfOk result (λ f. P (pair_of f))
found_where P d q new (Err e) finds answers = tt
found_where P d q new (Ok f) finds answers =
    finds (pair_of f) (ok_is_found (half_search (reader d) q) f (ok_is_told f (reported (half_search (reader d) q))
    (λ (x : ℕ). GivesUpAmong d new q x (scans_of (reader d) q)) answers))

module _ (d : Dfa) (q : Search) (new : CacheValue) (result : Result (Option HalfFound) MatchErrorKind) (made : IsDfa d)
    (within : q.end ≤ length q.haystack)
    (answers : Answers d new q result) where
  wanted_end : (o : Option (ℕ × ℕ)) → half_search (reader d) q ≡ found o → FindsWanted (reader d) q o
  wanted_end o is = finds_wanted (reader d) q o made.sound within is

  pub finds_up_to : d.nfa.automaton.reverse ≡ false → FindsUpTo (reader d) q result
  finds_up_to up = found_where (λ o. FindsWanted (reader d) q o × ((end : ℕ) × IsFoundUpTo (reader d) q o end)) d q new result
      (λ o is. let reach = scan_has_reach (reader d) q o up made.sound within is in (wanted_end o is, (reach.0, reach.1.finds))) answers

  pub finds_down_to : d.nfa.automaton.reverse ≡ true → FindsDownTo (reader d) q result
  finds_down_to back = found_where (λ o. FindsWanted (reader d) q o × ((begin : ℕ) × IsFoundDownTo (reader d) q o begin)) d q new result
      (λ o is. let reach = scan_has_reach_back (reader d) q o back within is in (wanted_end o is, (reach.0, reach.1.finds))) answers
