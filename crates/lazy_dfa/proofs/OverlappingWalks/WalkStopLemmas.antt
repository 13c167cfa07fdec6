-- Calls of an overlapping search that stopped at an end: it reports one more end there, nothing is left, or it reads on.
use Rattle.std.proofs.Common.{◌≡◌, ◌≢◌, ℕ, ◌+◌, ◌<◌, ◌==◌, ◌||◌, not, Bool, true, false, List, ◌∷◌, length, drop, map, Some, None, []}
use Rattle.std.proofs.Common.{if◌then◌else◌, refl, sym, ap, ◌∙◌, subst, inl, ⊎_elim, arith, true≢false}
use Rattle.std.specs.Prelude.{Result, slice_index}
use Rattle.std.proofs.lemmas.Bool.{cases_Bool, eqb-true}
use Rattle.search_types.specs.declared.match_error.MatchErrorKind.{MatchErrorKind}
use Rattle.search_types.specs.Inputs.{Search}
use Rattle.search_types.specs.Places.{counts}
use Rattle.nfa_core.specs.Places.{first}
use Rattle.nfa_core.specs.Ways.{offset_of}
use Rattle.lazy_dfa.specs.Caches.{CacheValue, IsCacheOf, HeldAt}
use Rattle.lazy_dfa.specs.declared.overlapping.overlapping_state.Stop.{Stop}
use Rattle.lazy_dfa.specs.declared.overlapping.overlapping_state.OverlappingPosition.TheVariants.{Fresh, Ended, Stopped}
use Rattle.lazy_dfa.specs.Dfas.{Dfa, IsDfa, reader}
use Rattle.lazy_dfa.specs.SearchAnswers.{half_of}
use Rattle.lazy_dfa.specs.Scans.{next_offset}
use Rattle.lazy_dfa.specs.ScanOffsets.{came, last_offset}
use Rattle.lazy_dfa.specs.Overlapping.{Rest, onto, others, end_of, rest_of, rest_past, value_past, StopsAt, CanContinue, OverlappingValue}
use Rattle.lazy_dfa.specs.OverlappingAnswers.{without_id, stop_after, lists_more, result_left, ReportsNext, value_before, ReadsOn}
use Rattle.lazy_dfa.specs.OverlappingAnswers.{MakesCall}
use Rattle.lazy_dfa.specs.OverlappingAnswers.{StartsQuietly, HasReadQuietly}
use Rattle.lazy_dfa.specs.Changes.{unchanged}
use Rattle.lazy_dfa.proofs.OverlappingWalks.WalkQuitLemmas.{came_next}
use Rattle.lazy_dfa.proofs.CacheChanges.LinkedLemmas.{grows_refl}
use Rattle.lazy_dfa.proofs.OverlappingWalks.WalkLeftLemmas.{past_last, past_value, past_rest, past_units, lists_none}
use Rattle.lazy_dfa.proofs.OverlappingWalks.WalkLeftLemmas.{lists_one}
use Rattle.lazy_dfa.proofs.OverlappingWalks.WalkCallLemmas.{fine, ended, tells_none, still_call, makes_on, MakesIts}

-- ---- overlapping searches that stopped

module _ (d : Dfa) (q : Search) (v : CacheValue) (m n : ℕ) (stop : Stop) (stops : StopsAt d v q stop) where
  abbrev more : Bool
  more = lists_more (reader d) q stop

  abbrev listing : List ℕ
  listing = (value_past (reader d) q stop.at).matches

  abbrev counted : Bool
  counted = counts (reader d).between_characters q.haystack stop.at

  abbrev next : Stop
  next = record { id = stop.id; index = stop.index + 1; at = stop.at }

  -- its state lists more
  pub more_call : (after : OverlappingValue) → more ≡ true → after.found ≡ half_of (Some (stop.at, slice_index listing stop.index)) →
      after.walk ≡ Stopped next → MakesCall d q v v m m n n (Stopped stop) after fine
  more_call after is found walk =
      still_call d q v m n (Stopped stop) after fine reports (ap (λ (b : Bool). not (b
      || stop.at == last_offset d.nfa.automaton.reverse q)) is)
      (subst (CanContinue d v q) (sym walk) goes) tt (λ none. never (sym none ∙
      found)) (λ quiet. subst (HasReadQuietly d q) (sym walk) quiet) tt
    where
      one : ((if counted then map (end_of stop.at) (drop stop.index listing) else []) ≡
          (stop.at, slice_index listing stop.index) ∷ (if counted then map (end_of stop.at) (drop (stop.index + 1) listing) else [])) ×
          (stop.index < length listing)
      one = lists_one counted stop.at stop.index listing is

      left : rest_of (reader d) q (Stopped stop) ≡ onto ((stop.at, slice_index listing stop.index) ∷ [])
          (rest_of (reader d) q (Stopped next))
      left = ap (λ (ends : List (ℕ × ℕ)). onto ends (rest_past (reader d) q stop.at)) one.0

      reports : ReportsNext (reader d) q (Stopped stop) after fine
      reports = record {
        answer = sym (ap (λ (x : Rest). result_left x.ends x.rejection) left);
        found = found ∙ sym (ap (λ (x : Rest). half_of (first x.ends)) left);
        left = ap (rest_of (reader d) q) walk ∙ sym (ap others left);
        stops = ap without_id walk
            ∙ sym (ap (λ (b : Bool). stop_after (if b then stop.index + 1 else 1) (first (rest_of (reader d) q (Stopped stop)).ends)) is
            ∙ ap (λ (x : Rest). stop_after (stop.index + 1) (first x.ends)) left);
      }

      goes : CanContinue d v q (Stopped next)
      goes = let l = one.1 in record { within = stops.within; held = stops.held; index = omega (arith, l) }

      never : None ≡ half_of (Some (stop.at, slice_index listing stop.index)) → after.walk ≡ Ended
      never e = let no : true ≡ false = cc in absurd (true≢false no)

  module _ (no_more : more ≡ false) where
    behind : rest_of (reader d) q (Stopped stop) ≡ rest_past (reader d) q stop.at
    behind = ap (λ (ends : List (ℕ × ℕ)). onto ends (rest_past (reader d) q stop.at))
        (lists_none counted stop.at stop.index listing no_more)

    -- there is no unit left, either
    pub over_call : (is_reverse : Bool) → is_reverse ≡ d.nfa.automaton.reverse → stop.at ≡ last_offset is_reverse q →
        MakesCall d q v v m m n n (Stopped stop) ended fine
    over_call is_reverse is here =
        still_call d q v m n (Stopped stop) ended fine
        (tells_none (reader d) q (Stopped stop) (behind ∙ past_last (reader d) q stop.at stops.within last))
        (ap (λ (b : Bool). not (more || b)) (is_same stop.at (last_offset d.nfa.automaton.reverse q) last) ∙ or_true more)
        tt tt (λ none. refl) (λ quiet. tt) tt
      where
        last : stop.at ≡ last_offset d.nfa.automaton.reverse q
        last = subst (λ (b : Bool). stop.at ≡ last_offset b q) is here

        is_same : (i j : ℕ) → i ≡ j → (i == j) ≡ true
        is_same i j e = grind (arith, e)

        or_true : (b : Bool) → not (b || true) ≡ false
        or_true true = refl
        or_true false = refl

-- an overlapping search that stopped reads on
module _ (d : Dfa) (q : Search) (v : CacheValue) (m n : ℕ) (stop : Stop) (made : IsDfa d) (own : IsCacheOf d v) (stops : StopsAt d v q stop)
    (no_more : lists_more (reader d) q stop ≡ false) (is_reverse : Bool) (is : is_reverse ≡ d.nfa.automaton.reverse)
    (apart : stop.at ≢ last_offset is_reverse q) where
  apart_so : stop.at ≢ last_offset d.nfa.automaton.reverse q
  apart_so = subst (λ (b : Bool). stop.at ≢ last_offset b q) is apart

  pub resumes_held : HeldAt v stop.id (value_before (reader d) q (offset_of is_reverse stop.at 1))
  resumes_held = subst (λ (b : Bool). HeldAt v stop.id (value_before (reader d) q (offset_of b stop.at 1))) (sym is)
      (subst (HeldAt v stop.id) (past_value (reader d) q stop.at stops.within apart_so) stops.held)

  pub resumes : (new : CacheValue) (m2 n2 : ℕ) (result : Result OverlappingValue MatchErrorKind) →
      ReadsOn d q (offset_of is_reverse stop.at 1) v new m m2 n n2 result →
      MakesIts d q (Stopped stop) v new m m2 n n2 result
  resumes new m2 n2 result x =
      makes_on d q (Stopped stop) v v new m m m2 n n n2 made own
      (ap (λ (b : Bool). not (b || stop.at == last_offset d.nfa.automaton.reverse q)) no_more
      ∙ ap not (is_other stop.at (last_offset d.nfa.automaton.reverse q) apart_so))
      (behind d q v m n stop stops no_more ∙ past_rest (reader d) q stop.at stops.within apart_so)
      (past_units (reader d) q stop.at stops.within apart_so)
      (inl (grows_refl d v, refl)) (omega arith) (omega arith) (λ fresh. no_fresh fresh) resumes_quietly (inl (refl, refl))
      (unchanged v 0 refl) result
      (subst (λ (b : Bool). ReadsOn d q (offset_of b stop.at 1) v new m m2 n n2 result) is x)
    where
      no_fresh : {P : Type 0} → Stopped stop ≡ Fresh → P
      no_fresh e = let never : true ≡ false = cc in absurd (true≢false never)

      resumes_quietly : HasReadQuietly d q (Stopped stop) →
          StartsQuietly d q (came d.nfa.automaton.reverse q (next_offset (reader d) stop.at))
      resumes_quietly quiet = subst (StartsQuietly d q) (sym (came_next d.nfa.automaton.reverse q stop.at stops.within apart_so)) quiet

      is_other : (i j : ℕ) → i ≢ j → (i == j) ≡ false
      is_other i j ne = ⊎_elim (λ (e : (i == j) ≡ true). absurd (ne (eqb-true i j e))) (λ (e : (i == j) ≡ false). e) (cases_Bool (i == j))
