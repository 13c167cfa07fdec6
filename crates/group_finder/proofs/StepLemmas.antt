-- What steps write along a match.
use Rattle.std.proofs.Common.{◌≡◌, ℕ, zero, suc, ◌+◌, ◌-◌, ◌<◌, ◌≤◌, Bool, true, false, List, [], ◌∷◌, Some, None, replicate, slice_index, slice_set, refl, sym, ap, ◌∙◌, ⊎_elim, arith}
use Rattle.std.proofs.lemmas.Bool.{cond-true, cond-false, cases_lt}
use Rattle.search_core.specs.ByteSets.{has}
use Rattle.group_finder.specs.declared.steps.Step.{Step}
use Rattle.group_finder.specs.declared.steps.Step.TheVariants.{Skip, Run, Character, Rest, Save}
use Rattle.group_finder.specs.Slots.{no_offset}
use Rattle.group_finder.specs.Layouts.{after_step, run_end, slot_of, slots_laid, step_writes, steps_write, written}

-- ---- a run of bytes
pub run_none : (s : List Bool) (h : List ℕ) (n at : ℕ) → n ≡ 0 → run_end s h n at ≡ at
unfolding run_end
run_none s h n at e = ap (λ m. run_end s h m at) e

pub run_stops : (s : List Bool) (h : List ℕ) (n m at : ℕ) → n ≡ suc m → has s (slice_index h at) ≡ false → run_end s h n at ≡ at
unfolding run_end
run_stops s h n m at e out = ap (λ x. run_end s h x at) e ∙ cond-false _ _ _ out

pub run_goes : (s : List Bool) (h : List ℕ) (n m at : ℕ) → n ≡ suc m → has s (slice_index h at) ≡ true →
    run_end s h n at ≡ run_end s h m (at + 1)
unfolding run_end
run_goes s h n m at e inside = ap (λ x. run_end s h x at) e ∙ cond-true _ _ _ inside

-- a run ends at the first byte that isn't in the set
pub run_lands : (s : List Bool) (h : List ℕ) (gap i at end : ℕ) → i + gap ≡ at → at ≤ end →
    ((x : ℕ) → i ≤ x → x < at → has s (slice_index h x) ≡ true) → (at < end → has s (slice_index h at) ≡ false) →
    run_end s h (end - i) i ≡ at
run_lands s h zero i at end here within inside out =
    let same : i ≡ at = omega (arith, here) in
    ⊎_elim
    (λ (before : at < end).
    run_stops s h (end - i) (end - (i + 1)) i (omega (arith, same, before)) (ap (λ x. has s (slice_index h x)) same ∙ out before) ∙ same)
    (λ (after : end ≤ at). run_none s h (end - i) i (omega (arith, same, after)) ∙ same)
    (cases_lt at end)
run_lands s h (suc gap) i at end here within inside out =
    run_goes s h (end - i) (end - (i + 1)) i (omega (arith, here, within)) (inside i (omega arith) (omega (arith, here)))
    ∙ run_lands s h gap (i + 1) at end (omega (arith, here)) within (λ x from below. inside x (omega (arith, from)) below) out

-- ---- steps one by one
-- a step that writes, and those after it
pub one_saved : (h : List ℕ) (end : ℕ) (s : Step) (steps : List Step) (at slot : ℕ) (old new all : List ℕ) → slot_of s ≡ Some slot →
    new ≡ slice_set old slot at → written (steps_write h end (s ∷ steps) at) old ≡ all → written (steps_write h end steps at) new ≡ all
unfolding steps_write written
one_saved h end (Save k) steps at slot old new all is wrote so_far =
    ap (written (steps_write h end steps at)) (wrote ∙ ap (λ (n : ℕ). slice_set old n at) (sym (some_same k slot is))) ∙ so_far
  where
    some_same : (a b : ℕ) → Some a ≡ Some b → a ≡ b
    some_same a b is = cc
one_saved h end (Skip n) steps at slot old new all is wrote so_far = cc
one_saved h end (Run set) steps at slot old new all is wrote so_far = cc
one_saved h end Character steps at slot old new all is wrote so_far = cc
one_saved h end (Rest n) steps at slot old new all is wrote so_far = cc

-- a step that doesn't, and those after it
pub one_passed : (h : List ℕ) (end : ℕ) (s : Step) (steps : List Step) (at next : ℕ) (slots all : List ℕ) → slot_of s ≡ None →
    next ≡ after_step h end s at → written (steps_write h end (s ∷ steps) at) slots ≡ all → written (steps_write h end steps next) slots ≡ all
unfolding steps_write
one_passed h end s steps at next slots all none moved so_far =
    ap (λ (a : ℕ). written (steps_write h end steps a) slots) moved ∙ ap (λ (ws : List (ℕ × ℕ)). written ws slots) (sym (passes s none)) ∙ so_far
  where
    passes : (s : Step) → slot_of s ≡ None →
        step_writes s at (steps_write h end steps (after_step h end s at)) ≡ steps_write h end steps (after_step h end s at)
    passes (Save k) none = cc
    passes (Skip n) none = refl
    passes (Run set) none = refl
    passes Character none = refl
    passes (Rest n) none = refl

pub none_left : (h : List ℕ) (end : ℕ) (steps : List Step) (at : ℕ) (slots : List ℕ) → steps ≡ [] →
    written (steps_write h end steps at) slots ≡ slots
unfolding steps_write written
none_left h end steps at slots none = ap (λ (ss : List Step). written (steps_write h end ss at) slots) none

-- what is left by clearing, the steps, and the span
pub slots_put : (h : List ℕ) (steps : List Step) (start end n : ℕ) (cleared walked started ended : List ℕ) → cleared ≡ replicate n no_offset →
    walked ≡ written (steps_write h end steps start) cleared → started ≡ slice_set walked 0 start → ended ≡ slice_set started 1 end →
    ended ≡ slots_laid h steps start end n
unfolding slots_laid
slots_put h steps start end n cleared walked started ended none walk first second =
    second ∙ ap (λ (xs : List ℕ). slice_set xs 1 end) (first ∙ ap (λ (xs : List ℕ). slice_set xs 0 start)
    (walk ∙ ap (written (steps_write h end steps start)) none))
