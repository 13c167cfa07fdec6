-- The progress of searches after a turn, by what the calls before and after its step report to the cache.
use Rattle.std.proofs.Common.{◌≡◌, ◌≢◌, ℕ, ◌==◌, ◌&&◌, not, Bool, true, false, if◌then◌else◌, refl, sym, ap, ◌∙◌}
use Rattle.std.proofs.lemmas.Bool.{ne_eqb, eq-eqb}
use Rattle.search_types.specs.Inputs.{Search}
use Rattle.lazy_dfa.specs.AnewProgress.{anew_if}
use Rattle.lazy_dfa.specs.Caches.{CacheValue, moved_to}
use Rattle.lazy_dfa.specs.LeftProgress.{progress_reached, progress_finished}
use Rattle.lazy_dfa.specs.Scans.{index_at}
use Rattle.lazy_dfa.specs.SearchAnswers.{ProgressValue, progress_of}
use Rattle.lazy_dfa.specs.ScanOffsets.{last_offset, reports, finished, finished_where, progress_byte, progress_last, turned_progress}

finished_if : (wanted : Bool) (at : ℕ) (v : CacheValue) → progress_of (finished_where wanted at v) ≡ (if wanted
    then progress_finished at (progress_of v) else progress_of v)
finished_if false at v = refl
finished_if true at v = refl

module _ (q : Search) (is_reverse back : Bool) (same : is_reverse ≡ back) (v0 v1 v2 : CacheValue) (at : ℕ)
    (finishes ends cleared : Bool) where
  -- what a turn reports, depending on whether it is the last one
  by_place : (is : Bool) → at == last_offset is_reverse q ≡ is →
      (if is then progress_last is_reverse ends cleared q at (progress_of v0) else progress_byte is_reverse finishes cleared at
      (progress_of v0)) ≡
      turned_progress back finishes ends cleared q at (progress_of v0)
  by_place is e =
      sym (ap (λ (b : Bool). if b then progress_last is_reverse ends cleared q at (progress_of v0)
      else progress_byte is_reverse finishes cleared at (progress_of v0)) e)
      ∙ ap (λ (b : Bool). turned_progress b finishes ends cleared q at (progress_of v0)) same

  module _ (step : progress_of v2 ≡ anew_if cleared (progress_of v1)) where
    module _ (index : ℕ) (here : index ≡ index_at is_reverse at) (left : at ≢ last_offset is_reverse q)
        (e : v1 ≡ record v0 { progress = moved_to index v0.progress }) where
      stepped : progress_of v2 ≡ anew_if cleared (progress_reached index (progress_of v0))
      stepped = step ∙ ap (anew_if cleared) (ap progress_of e)

      pub byte_turned : finishes ≡ false → progress_of v2 ≡ turned_progress back finishes ends cleared q at (progress_of v0)
      byte_turned f =
          stepped
          ∙ (ap (λ (x : ℕ). anew_if cleared (progress_reached x (progress_of v0))) here
          ∙ (sym (ap (λ (b : Bool). progress_byte is_reverse b cleared at (progress_of v0)) f)
          ∙ by_place false (ne_eqb at (last_offset is_reverse q) left)))

      pub byte_finished : (v3 : CacheValue) → v3 ≡ finished index v2 → finishes ≡ true →
          progress_of v3 ≡ turned_progress back finishes ends cleared q at (progress_of v0)
      byte_finished v3 f g =
          ap progress_of f
          ∙ (ap (progress_finished index) stepped
          ∙ (ap (λ (x : ℕ). progress_finished x (anew_if cleared (progress_reached x (progress_of v0)))) here
          ∙ (sym (ap (λ (b : Bool). progress_byte is_reverse b cleared at (progress_of v0)) g)
          ∙ by_place false (ne_eqb at (last_offset is_reverse q) left))))

    module _ (last : at ≡ last_offset is_reverse q) (e : v1 ≡ finished_where (is_reverse && reports is_reverse q) at v0) where
      pub last_turned : ends ≡ false → progress_of v2 ≡ turned_progress back finishes ends cleared q at (progress_of v0)
      last_turned f =
          step
          ∙ (ap (anew_if cleared) (ap progress_of e ∙ finished_if (is_reverse && reports is_reverse q) at v0)
          ∙ (so is_reverse ∙ (sym (ap (λ (b : Bool). progress_last is_reverse b cleared q at (progress_of v0)) f)
          ∙ by_place true (eq-eqb at (last_offset is_reverse q) last))))
        where
          so : (b : Bool) → anew_if cleared (if b && reports b q then progress_finished at (progress_of v0)
              else progress_of v0) ≡ progress_last b false cleared q at (progress_of v0)
          so true = refl
          so false = refl

      pub last_finished : (v3 : CacheValue) → v3 ≡ finished_where (not is_reverse) at v2 → ends ≡ true →
          progress_of v3 ≡ turned_progress back finishes ends cleared q at (progress_of v0)
      last_finished v3 f g =
          ap progress_of f
          ∙ (finished_if (not is_reverse) at v2
          ∙ (ap (λ (t : ProgressValue). if not is_reverse then progress_finished at t else t) (step
          ∙ ap (anew_if cleared) (ap progress_of e ∙ finished_if (is_reverse && reports is_reverse q) at v0))
          ∙ (so is_reverse ∙ (sym (ap (λ (b : Bool). progress_last is_reverse b cleared q at (progress_of v0)) g)
          ∙ by_place true (eq-eqb at (last_offset is_reverse q) last)))))
        where
          so : (b : Bool) → (if not b then progress_finished at (anew_if cleared (if b && reports b q then progress_finished at (progress_of
              v0)
              else progress_of v0)) else
              anew_if cleared (if b && reports b q then progress_finished at (progress_of v0) else progress_of v0)) ≡
              progress_last b true cleared q at
              (progress_of v0)
          so true = refl
          so false = refl
