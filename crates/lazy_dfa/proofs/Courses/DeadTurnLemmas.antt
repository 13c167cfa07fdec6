-- A turn of a scan by a byte that is known to lead to the dead state.
use Rattle.std.proofs.Common.{◌≡◌, ◌≢◌, ℕ, ◌+◌, ◌%◌, ◌<◌, Bool, true, false, Option, Some, None, get_or, refl, ap, ◌∙◌, ⊎_elim, arith}
use Rattle.std.specs.Prelude.{nat_le, min, Ok}
use Rattle.std.proofs.lemmas.Bool.{cases_Bool}
use Rattle.determinize_core.specs.Steps.{unit_at}
use Rattle.search_types.specs.Found.{HalfFound}
use Rattle.search_types.specs.Inputs.{Search}
use Rattle.lazy_dfa.specs.Caches.{CacheValue, IsCacheOf, IsRow, greatest, progress_len, moved_to}
use Rattle.lazy_dfa.specs.declared.cache.progress.Progress.{Progress}
use Rattle.lazy_dfa.specs.declared.search.scan_steps.Seen.{Seen}
use Rattle.lazy_dfa.specs.declared.search.scan_steps.Turn.TheVariants.{Ends}
use Rattle.lazy_dfa.specs.Dfas.{Dfa, IsDfa, IsUnit, class_of}
use Rattle.lazy_dfa.specs.Ids.{tag, has_tag, dead_tag, unknown_id}
use Rattle.lazy_dfa.specs.Scans.{index_at}
use Rattle.lazy_dfa.specs.Points.{point}
use Rattle.lazy_dfa.specs.SearchAnswers.{pair_of}
use Rattle.lazy_dfa.specs.ScanOffsets.{IsWithinSpan, last_offset, finished, EndsWith}
use Rattle.lazy_dfa.specs.ScanSteps.{IsTurn}
use Rattle.lazy_dfa.proofs.CacheChanges.IsCacheLemmas.{le_of}
use Rattle.lazy_dfa.proofs.CacheChanges.StepLemmas.{known_held, known_step}
use Rattle.lazy_dfa.proofs.CacheChanges.LinkedLemmas.{is_cache_moved}
use Rattle.lazy_dfa.proofs.Courses.SpanTurnLemmas.{row_moved, byte_ends}
use Rattle.lazy_dfa.proofs.Courses.TurnStepLemmas.{see_dead, turn_made}
use Rattle.lazy_dfa.proofs.Courses.TurnToldLemmas.{byte_finished}

above_is_known : (a b : ℕ) → b < a → nat_le a b ≡ false
above_is_known a b l = ⊎_elim
    (λ (e : nat_le a b ≡ true). let g = le_of a b e in absurd (omega (arith, g, l)))
    (λ (e : nat_le a b ≡ false). e)
    (cases_Bool (nat_le a b))

moved_again : (at : ℕ) (o : Option Progress) → moved_to at o ≡ moved_to at (moved_to at o)
moved_again at None = refl
moved_again at (Some p) = refl

module _ (d : Dfa) (q : Search) (is_reverse : Bool) (same : is_reverse ≡ d.nfa.automaton.reverse) (v : CacheValue)
    (m n at id c to index b : ℕ) (best : Option HalfFound) (made : IsDfa d) (own : IsCacheOf d v) (row : IsRow v id)
    (unit : IsUnit (Some b)) (class : c ≡ class_of d.classes (Some b)) (read : to ≡ get_or v.cells (id % tag + c) 0)
    (known : to < unknown_id) (dead : has_tag dead_tag to ≡ true) (is : Some b ≡ unit_at d.nfa.automaton.reverse q.haystack at)
    (here : index ≡ index_at is_reverse at) (within : IsWithinSpan q at) (left : at ≢ last_offset is_reverse q) where
  -- the cache as it would be if the progress were reported before the byte is read
  abbrev reported : CacheValue
  reported = record v { progress = moved_to index v.progress }

  mine : IsCacheOf d reported
  mine = is_cache_moved d v reported refl own

  there : IsRow reported id
  there = row_moved v reported id refl row

  abbrev seen : Seen
  seen = record { turn = Ends; id = to; best = best }

  turn : IsTurn d q.earliest q.haystack (Some b) (point reported m n at id (pair_of best)) reported m n (Ok seen)
  turn =
      let low = above_is_known unknown_id to known in
      turn_made d q.haystack reported at id m n (Some b) (pair_of best) q.earliest mine there is reported m n to mine
      (known_step d reported id c to (Some b) made mine there unit class read low m n) seen
      (see_dead reported to at (pair_of best) q.earliest seen mine.shape
      (known_held d reported id c to (Some b) made mine there unit class read low) refl dead refl refl)

  finished_again : finished index v ≡ finished index reported
  finished_again = ap (λ (p : Option Progress). record v { searched = min (v.searched + progress_len p) greatest; progress = None })
      (moved_again index v.progress)

  pub dead_turn : (new : CacheValue) → new ≡ finished index v → EndsWith d q (point v m n at id (pair_of best)) new m n (pair_of best)
  dead_turn new e =
      byte_ends d q is_reverse same v reported reported m n m n at id (pair_of best) (Some b) to (pair_of best) q.earliest Ends refl turn
      new index
      here refl (e ∙ finished_again) within left
      (λ cleared step. byte_finished q is_reverse d.nfa.automaton.reverse same v reported reported at true true cleared step index here
      left refl
      new (e ∙ finished_again) refl)
      refl
