-- What a call of an overlapping search guarantees to its callers.
use Rattle.std.proofs.Common.{◌≡◌, ℕ, List, ◌∷◌, None, refl, sym, ap, ◌∙◌, inl, inr, subst, []}
use Rattle.std.specs.Prelude.{◌⊎◌, ◌<◌, Result, Ok, Err, IfErr, OnOk, ⊤}
use Rattle.search_types.specs.declared.match_error.MatchErrorKind.{MatchErrorKind}
use Rattle.search_types.specs.declared.match_error.MatchErrorKind.TheVariants.{NoMemory}
use Rattle.search_types.specs.Inputs.{Search}
use Rattle.nfa_core.specs.Ways.{offset_of}
use Rattle.lazy_dfa.specs.Caches.{CacheValue, greatest}
use Rattle.lazy_dfa.specs.ConfigValue.{clears_of}
use Rattle.lazy_dfa.specs.declared.overlapping.overlapping_state.OverlappingPosition.{OverlappingPosition}
use Rattle.lazy_dfa.specs.Dfas.{Dfa, reader}
use Rattle.lazy_dfa.specs.Linked.{CacheGrows, HasCleared}
use Rattle.lazy_dfa.specs.Scans.{first_value}
use Rattle.lazy_dfa.specs.HalfSearchLaws.{begins_at}
use Rattle.lazy_dfa.specs.SearchAnswers.{progress_of}
use Rattle.lazy_dfa.specs.Overlapping.{rest_of, value_past, OverlappingValue}
use Rattle.lazy_dfa.specs.OverlappingAnswers.{call_offset, result_left, GivesUpOn, at_start, at_unit, AnswersOverlapping, progress_by_call}
use Rattle.lazy_dfa.specs.OverlappingAnswers.{MakesCall}
use Rattle.lazy_dfa.specs.OverlappingPromises.{AnswersCall, CallLeavesCache, CountsCall, ReportsCall}
use Rattle.lazy_dfa.proofs.CacheChanges.LinkedLemmas.{not_cleared}
use Rattle.lazy_dfa.proofs.Courses.SearchClauseLemmas.{has_room}
use Rattle.lazy_dfa.proofs.OverlappingWalks.WalkToldLemmas.{call_is_left, call_is_told_since}

abbrev HasNoMemory : Result ⊤ MatchErrorKind → Type 0
HasNoMemory x = IfErr x (λ e. e ≡ NoMemory)

none_refused : (ends : List (ℕ × ℕ)) → HasNoMemory (result_left ends None)
none_refused [] = tt
none_refused (x ∷ xs) = tt

-- if no least number of clears is set and no error is left, only an allocation may fail
module _ (d : Dfa) (q : Search) (v : CacheValue) (w : OverlappingPosition) (after : OverlappingValue) (none : clears_of d.options ≡
    None) where
  never_gives_up : (x : ℕ) → GivesUpOn d v q w x → ⊥
  never_gives_up x (at_start fresh place lacks free) =
      has_room d v none (first_value (reader d) q.anchored q.haystack (begins_at (reader d) q)) lacks
  never_gives_up x (at_unit k less place lacks runs free quits) =
      has_room d v none (value_past (reader d) q (offset_of d.nfa.automaton.reverse (call_offset (reader d) q w) k)) lacks

  sure_by : (result : Result ⊤ MatchErrorKind) → (rest_of (reader d) q w).rejection ≡ None →
      AnswersOverlapping d v q w after result → HasNoMemory result
  sure_by result no_refusal (inl reports) =
      subst HasNoMemory (sym (reports.answer ∙ ap (result_left (rest_of (reader d) q w).ends) no_refusal))
      (none_refused (rest_of (reader d) q w).ends)
  sure_by result no_refusal (inr (inl e)) = subst HasNoMemory (sym e) refl
  sure_by result no_refusal (inr (inr g)) = absurd (never_gives_up g.0 g.2)

-- what a call does is what it guarantees
module _ {d : Dfa} {q : Search} {old new : CacheValue} {m1 m2 n1 n2 : ℕ} {w : OverlappingPosition} {after : OverlappingValue}
    {result : Result ⊤ MatchErrorKind} (made : MakesCall d q old new m1 m2 n1 n2 w after result) where
  told_then : (x : Result ⊤ MatchErrorKind) →
      OnOk x ((CacheGrows d old new × (progress_of new ≡ progress_by_call (reader d) q w (progress_of old))) ⊎ HasCleared old new) →
      OnOk x (new.clears ≡ old.clears → old.clears < greatest → progress_of new ≡ progress_by_call (reader d) q w (progress_of old))
  told_then (Ok u) (inl kept) = λ same less. kept.1
  told_then (Ok u) (inr cleared) = λ same less. absurd (not_cleared old new cleared same less)
  told_then (Err e) t = tt

  pub answers_call : AnswersCall d q new w after result
  answers_call = record {
    answer = made.answer;
    ends = made.ends;
    failed = made.failed;
    sure = λ none no_refusal. sure_by d q new w after none result no_refusal made.answer;
    still = made.still;
  }

  pub call_leaves_cache : CallLeavesCache d q w old new
  call_leaves_cache = record { kept = made.kept; same = λ none reads. (made.quiet none reads).0 }

  pub counts_call : CountsCall d q w m1 m2 n1 n2
  counts_call = record {
    free = λ none reads. ((made.quiet none reads).1, (made.quiet none reads).2);
    determinized = made.determinized;
    inserted = made.inserted;
  }

  pub reports_call : ReportsCall d q w old new result
  reports_call = record {
    reported = told_then result made.reported;
    left_progress = call_is_left d q w old new result made.anew;
    told_since = λ other. call_is_told_since d q w old new result made.anew other;
    changes = made.changes;
  }
