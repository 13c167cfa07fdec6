-- The start of a scan, by the results of start calls.
use Rattle.std.proofs.Common.{◌≡◌, ◌≢◌, ◌⊎◌, ℕ, suc, ◌+◌, ◌≤◌, Bool, true, false, Option, Some, None, refl, sym, ap, ◌∙◌, subst, inl, inr}
use Rattle.std.proofs.Common.{⊎_elim}
use Rattle.std.specs.Prelude.{Result, Ok, Err, IfOk, IfErr, MatchOption, ⊤, if◌then◌else◌}
use Rattle.search_types.specs.declared.anchored.Anchored.{Anchored}
use Rattle.search_types.specs.declared.anchored.Anchored.TheVariants.{No, Yes, Pattern}
use Rattle.search_types.specs.declared.match_error.MatchErrorKind.{MatchErrorKind}
use Rattle.search_types.specs.declared.match_error.MatchErrorKind.TheVariants.{GaveUp, NoMemory}
use Rattle.search_types.specs.Found.{HalfFound}
use Rattle.search_types.specs.Inputs.{Search}
use Rattle.search_types.specs.Modes.{is_supported}
use Rattle.determinize_core.specs.States.{StateValue, dead}
use Rattle.determinize_core.specs.Starts.{StartValue, start_of}
use Rattle.determinize_core.specs.Steps.{unit_before}
use Rattle.lazy_dfa.specs.Caches.{CacheValue, Names, names_dead, has_no_room}
use Rattle.lazy_dfa.specs.ConfigValue.{starts_each_of}
use Rattle.lazy_dfa.specs.declared.start_error.StartError.{StartError}
use Rattle.lazy_dfa.specs.declared.start_error.StartError.TheVariants.{Quit, UnsupportedAnchored}
use Rattle.lazy_dfa.specs.Dfas.{Dfa, reader, start_in, first_state}
use Rattle.lazy_dfa.specs.Ids.{dead_id, unknown_id}
use Rattle.lazy_dfa.specs.MadeScans.{span_len}
use Rattle.lazy_dfa.specs.Scans.{index_before_offset, unless_quit, if_supported, start_name, start_or_dead, first_value, scan, pass_from}
use Rattle.lazy_dfa.specs.Readers.{HalfAnswer, quit, is_quit}
use Rattle.lazy_dfa.specs.HalfSearches.{first_offset}
use Rattle.lazy_dfa.specs.HalfSearchLaws.{begins_at}
use Rattle.lazy_dfa.specs.SearchAnswers.{reported}
use Rattle.lazy_dfa.specs.SearchStarts.{AnswersStart, error_at}
use Rattle.lazy_dfa.specs.ScanOffsets.{scan_start, StartsScan}
use Rattle.lazy_dfa.specs.StartCalls.{mode_of, rejected_by_quit, rejected_by_byte, rejected_mode, rejected_start, start_noted, start_first}
use Rattle.lazy_dfa.specs.StartCalls.{StartAdds}
use Rattle.lazy_dfa.specs.StartCalls.{IsStartKnown, IsStartCause}
use Rattle.lazy_dfa.specs.Steps.{Grew, WasCleared, most_inserts}

-- what a forward or reverse search through the span passes to its start call
abbrev pub start_read : Bool → Search → StartValue
start_read is_reverse q = record {
  look_behind = unit_before is_reverse q.haystack (first_offset is_reverse q.start q.end);
  anchored = q.anchored;
}

-- the result of the start of a search, and what it leaves
pub record ToldStart (d : Dfa) (c : StartValue) (quit_place place : ℕ) (old new : CacheValue) (m1 m2 n1 n2 : ℕ)
    (r : Result ℕ MatchErrorKind) : Type 0 where
  pub answer : AnswersStart d old new c quit_place place r
  pub noted : IfOk r (λ id. (p : ℕ) → start_in d (mode_of c.anchored) ≡ Some p → start_noted d new c ≡ id)
  pub known : rejected_start d c ≡ None → (p : ℕ) → start_in d (mode_of c.anchored) ≡ Some p → start_noted d old c ≢ unknown_id →
      r ≡ Ok (start_noted d old c)
  pub none : rejected_start d c ≡ None → start_in d (mode_of c.anchored) ≡ None → r ≡ Ok (dead_id new.stride)
  pub same : IsStartKnown d old c → new ≡ old
  pub free : IsStartKnown d old c → (m2 ≡ m1) × (n2 ≡ n1)
  pub kept : Grew d old new ⊎ WasCleared old new 1
  pub gave_up : r ≡ Err (GaveUp place) → new ≡ old
  pub determinized : m2 ≤ m1 + 1
  pub inserted : n2 ≤ n1 + most_inserts d
  pub adds : StartAdds d old new c

-- ---- the first state

pub named_alike : (d : Dfa) (mode : Anchored) → start_in d (mode_of mode) ≡ start_name d.nfa.automaton mode
named_alike d No = refl
named_alike d Yes = refl
named_alike d (Pattern p) = refl

-- the state in which a scan starts, by its name in the NFA
starts_from : (d : Dfa) (behind o : Option ℕ) (p : ℕ) → o ≡ Some p → start_or_dead (reader d) behind o ≡ first_state d
    (start_of d.nfa.terminator behind) p
unfolding start_or_dead first_state
starts_from d behind o p e = ap (start_or_dead (reader d) behind) e

pub starts_dead : (d : Dfa) (behind o : Option ℕ) → o ≡ None → start_or_dead (reader d) behind o ≡ dead
unfolding start_or_dead
starts_dead d behind o e = ap (start_or_dead (reader d) behind) e

-- ---- errors

abbrev failed : MatchErrorKind → Result (Option HalfFound) MatchErrorKind
failed e = Err e

mode_told : (is : Bool) (mode : Anchored) (index place : ℕ) (rest : HalfAnswer) (e : StartError) →
    (if is then None else Some (UnsupportedAnchored mode)) ≡ Some e →
    failed (error_at index place e) ≡ reported (if_supported is mode rest)
mode_told true mode index place rest e f = absurd cc
mode_told false mode index place rest e f = let same : e ≡ UnsupportedAnchored mode = cc in
    ap (λ (x : StartError). failed (error_at index place x)) same

quit_told : (is : Bool) (b : ℕ) (mode : Anchored) (fine : Bool) (index place : ℕ) (rest : HalfAnswer) (e : StartError) →
    rejected_by_quit is b (if fine then None else Some (UnsupportedAnchored mode)) ≡ Some e →
    failed (error_at index place e) ≡ reported (if is then quit b index else if_supported fine mode rest)
quit_told true b mode fine index place rest e f = let same : e ≡ Quit b = cc in
    ap (λ (x : StartError). failed (error_at index place x)) same
quit_told false b mode fine index place rest e f = mode_told fine mode index place rest e f

-- if a start is rejected whatever the cache holds, its error is the result of the scan
pub pass_told : (d : Dfa) (behind : Option ℕ) (mode : Anchored) (index place : ℕ) (rest : HalfAnswer) (e : StartError) →
    rejected_by_byte d behind (rejected_mode d mode) ≡ Some e →
    failed (error_at index place e) ≡ reported (unless_quit d.quits behind index
    (if_supported (is_supported (starts_each_of d.options) mode) mode rest))
pass_told d None mode index place rest e f = mode_told (is_supported (starts_each_of d.options) mode) mode index place rest e f
pass_told d (Some b) mode index place rest e f = quit_told (is_quit d.quits (Some b)) b mode
    (is_supported (starts_each_of d.options) mode) index place rest e f

abbrev answered : ℕ → Result ℕ MatchErrorKind
answered id = Ok id

abbrev refused : MatchErrorKind → Result ℕ MatchErrorKind
refused e = Err e

none_refused : (o : Option StartError) (id : ℕ) (f : StartError → MatchErrorKind) → MatchOption o ⊤ (λ e. answered id ≡ Err (f e)) →
    o ≡ None
none_refused None id f x = refl
none_refused (Some e) id f x = absurd cc

one_refused : (x y : MatchErrorKind) → refused x ≡ Err y → x ≡ y
one_refused x y e = cc

-- ---- the start of a scan

module _ (d : Dfa) (q : Search) (old new : CacheValue) where
  abbrev begins : ℕ
  begins = begins_at (reader d) q

  abbrev told_of_it : StartValue
  told_of_it = scan_start d q

  abbrev first : StateValue
  first = first_value (reader d) q.anchored q.haystack begins

  abbrev quits_at : ℕ
  quits_at = index_before_offset d.nfa.automaton.reverse begins

  abbrev whole : HalfAnswer
  whole = scan (reader d) q.anchored q.earliest q.haystack (span_len q) begins

  is_first : (p : ℕ) → start_in d (mode_of q.anchored) ≡ Some p → first ≡ start_first d told_of_it p
  is_first p e = starts_from d told_of_it.look_behind (start_name d.nfa.automaton q.anchored) p (sym (named_alike d q.anchored) ∙ e)

  -- the state that the ID names
  names_first : (id : ℕ) (o : Option ℕ) → o ≡ start_in d (mode_of q.anchored) →
      MatchOption o (id ≡ dead_id new.stride) (λ p. Names new id (start_first d told_of_it p)) → Names new id first
  names_first id None e x = names_dead x (starts_dead d told_of_it.look_behind (start_name d.nfa.automaton q.anchored)
      (sym (named_alike d q.anchored) ∙ sym e))
  names_first id (Some p) e x = subst (Names new id) (sym (is_first p (sym e))) x

  lacks_first : (o : Option ℕ) → o ≡ start_in d (mode_of q.anchored) → new ≡ old →
      MatchOption o ⊥ (λ p. has_no_room d old (start_first d told_of_it p) ≡ true) → has_no_room d new first ≡ true
  lacks_first None e f x = absurd x
  lacks_first (Some p) e f x = ap (λ (v : CacheValue). has_no_room d v first) f ∙ (ap (has_no_room d old) (is_first p (sym e)) ∙ x)

  start_told : (r : Result ℕ MatchErrorKind) → AnswersStart d old new told_of_it quits_at begins r →
      IfOk r (λ id. (rejected_start d told_of_it ≡ None) × Names new id first)
  start_told (Err e) a = tt
  start_told (Ok id) a =
      let none = none_refused (rejected_start d told_of_it) id (error_at quits_at begins) a.refused in
      (none, names_first id (start_in d (mode_of q.anchored)) refl (a.start none))

  abbrev FailsAt : MatchErrorKind → Type 0
  FailsAt e = ((rejected_start d told_of_it ≢ None) × (failed e ≡ reported whole)) ⊎ (e ≡ NoMemory) ⊎
      ((e ≡ GaveUp begins) × (has_no_room d new first ≡ true) × (rejected_start d told_of_it ≡ None))

  caused : (k : MatchErrorKind) (e : StartError) → IsStartCause d old told_of_it e → k ≡ error_at quits_at begins e →
      (refused k ≡ Err (GaveUp begins) → new ≡ old) → rejected_start d told_of_it ≡ None → FailsAt k
  caused k e (inl f) is same none = inr (inl (is ∙ ap (error_at quits_at begins) f))
  caused k e (inr g) is same none =
      let gave : k ≡ GaveUp begins = is ∙ ap (error_at quits_at begins) g.0 in
      inr (inr (gave, lacks_first (start_in d (mode_of q.anchored)) refl (same (ap refused gave)) g.1.lacks, none))

  pass_refused : (k : MatchErrorKind) (x : StartError) → rejected_start d told_of_it ≡ Some x →
      AnswersStart d old new told_of_it quits_at begins (Err k) → failed k ≡ reported whole
  pass_refused k x e a =
      let is : refused k ≡ Err (error_at quits_at begins x) = subst (λ (o : Option StartError). MatchOption o ⊤
      (λ y. refused k ≡ Err (error_at quits_at begins y))) e a.refused in
      ap failed (one_refused k (error_at quits_at begins x) is)
      ∙ pass_told d told_of_it.look_behind q.anchored quits_at begins (pass_from (reader d) q.earliest q.haystack
      (suc (span_len q)) begins first None) x e

  refusal_told : (k : MatchErrorKind) (o : Option StartError) → rejected_start d told_of_it ≡ o →
      AnswersStart d old new told_of_it quits_at begins (Err k) →
      (refused k ≡ Err (GaveUp begins) → new ≡ old) → FailsAt k
  refusal_told k None e a same = let x = a.err e in caused k x.0 x.1 x.2 same e
  refusal_told k (Some x) e a same = inl (λ n. some_none x (sym e ∙ n), pass_refused k x e a)
    where
      some_none : (x : StartError) → Some x ≡ None → ⊥
      some_none x e = absurd cc

  err_told : (r : Result ℕ MatchErrorKind) → AnswersStart d old new told_of_it quits_at begins r → (r ≡ Err (GaveUp begins) → new ≡ old) →
      IfErr r FailsAt
  err_told (Ok id) a same = tt
  err_told (Err k) a same = refusal_told k (rejected_start d told_of_it) refl a same

  -- if nothing has to be made for a start, it returns an ID, or its error is the result of the scan
  known_refused : (r : Result ℕ MatchErrorKind) → AnswersStart d old new told_of_it quits_at begins r →
      ((p : ℕ) → rejected_start d told_of_it ≡ None → start_in d (mode_of q.anchored) ≡ Some p → start_noted d old told_of_it ≢ unknown_id →
      r ≡ Ok (start_noted d old told_of_it)) →
      (rejected_start d told_of_it ≡ None → start_in d (mode_of q.anchored) ≡ None → r ≡ Ok (dead_id new.stride)) →
      IsStartKnown d old told_of_it → IfErr r (λ e. failed e ≡ reported whole)
  known_refused (Ok id) a known none x = tt
  known_refused (Err k) a known none x = by (rejected_start d told_of_it) refl
    where
      no_ok : (id : ℕ) → refused k ≡ Ok id → failed k ≡ reported whole
      no_ok id e = absurd cc

      named : rejected_start d told_of_it ≡ None → start_noted d old told_of_it ≢ unknown_id → (o : Option ℕ) →
          start_in d (mode_of q.anchored) ≡ o → failed k ≡ reported whole
      named e n None f = no_ok (dead_id new.stride) (none e f)
      named e n (Some p) f = no_ok (start_noted d old told_of_it) (known p e f n)

      by : (o : Option StartError) → rejected_start d told_of_it ≡ o → failed k ≡ reported whole
      by (Some y) e = pass_refused k y e a
      by None e = ⊎_elim
          (λ (n : rejected_start d told_of_it ≢ None). absurd (n e))
          (λ (y : (start_in d (mode_of q.anchored) ≡ None) ⊎ (start_noted d old told_of_it ≢ unknown_id)). ⊎_elim
          (λ (f : start_in d (mode_of q.anchored) ≡ None). no_ok (dead_id new.stride) (none e f))
          (λ (n : start_noted d old told_of_it ≢ unknown_id). named e n (start_in d (mode_of q.anchored)) refl)
          y)
          x

  module _ (m1 m2 n1 n2 : ℕ) (r : Result ℕ MatchErrorKind) where
    starts_so : ToldStart d told_of_it quits_at begins old new m1 m2 n1 n2 r → StartsScan d q old new m1 m2 n1 n2 r
    starts_so t = record {
      start = start_told r t.answer;
      err = err_told r t.answer t.gave_up;
      kept = t.kept;
      noted = t.noted;
      known = λ p none named n. t.known none p named n;
      refused = known_refused r t.answer (λ p none named n. t.known none p named n) t.none;
      same = λ k. let w = t.free k in (t.same k, w.0, w.1);
      determinized = t.determinized;
      inserted = t.inserted;
      adds = t.adds;
    }

    pub starts_pass : (is_reverse : Bool) → is_reverse ≡ d.nfa.automaton.reverse →
        ToldStart d (start_read is_reverse q) (index_before_offset is_reverse (first_offset is_reverse q.start q.end))
        (first_offset is_reverse q.start q.end) old new m1 m2 n1 n2 r →
        StartsScan d q old new m1 m2 n1 n2 r
    starts_pass is_reverse e t = starts_so
        (subst (λ (b : Bool). ToldStart d (start_read b q) (index_before_offset b (first_offset b q.start q.end))
        (first_offset b q.start q.end) old new m1 m2 n1 n2 r) e t)
