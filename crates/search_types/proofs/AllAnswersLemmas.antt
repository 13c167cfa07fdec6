-- The list of all answers: each step of a loop that writes it, that the ends rise, and that no answer is cut off.
use Rattle.std.proofs.Common.{◌≡◌, ℕ, zero, suc, ◌+◌, ◌-◌, ◌<◌, ◌≤◌, ◌&&◌, Bool, true, false, cond, if◌then◌else◌, List, ◌∷◌, ◌++◌, []}
use Rattle.std.proofs.Common.{Option, Some, None, nat_eq, refl, sym, ap, ◌∙◌, inl, inr, arith, append-nil, append_assoc, eq-eqb}
use Rattle.std.specs.List.{All}
use Rattle.std.proofs.lemmas.Bool.{cases_lt}
use Rattle.search_types.specs.Found.{Found}
use Rattle.search_types.specs.AllAnswers.{is_repeat, and_on, next_answer, answers_from, all_answers, AnswersWithin, EndsRise}

-- one more answer is written
pub answer_written : (answer : ℕ → Option Found) (written : List Found) (n m : ℕ) (last : Option ℕ) (at : ℕ) (f : Found) → n ≡ suc m →
    Some f ≡ next_answer answer last at →
    (written ++ f ∷ []) ++ answers_from answer m (Some f.end) f.end ≡ written ++ answers_from answer n last at
answer_written answer written n m last at f e is =
    append_assoc written (f ∷ []) (answers_from answer m (Some f.end) f.end)
    ∙ ap (λ o. written ++ and_on o (λ g. answers_from answer m (Some g.end) g.end)) is
    ∙ ap (λ k. written ++ answers_from answer k last at) (sym e)

-- what is written is the whole list: there is no further answer ...
pub answers_done : (answer : ℕ → Option Found) (written : List Found) (n : ℕ) (last : Option ℕ) (at : ℕ) →
    None ≡ next_answer answer last at →
    written ≡ written ++ answers_from answer n last at
answers_done answer written zero last at is = sym (append-nil written)
answers_done answer written (suc n) last at is =
    sym (append-nil written) ∙ ap (λ o. written ++ and_on o (λ g. answers_from answer n (Some g.end) g.end)) is

-- a span between two offsets that ends after the first
pub record IsPast (at e : ℕ) (f : Found) : Type 0 where
  pub later : at < f.end
  pub starts : at ≤ f.start
  pub forward : f.start ≤ f.end
  pub within : f.end ≤ e

All-cons : (P : Found → Type 0) (f : Found) (fs : List Found) → P f → All P fs → All P (f ∷ fs)
All-cons P f fs here others zero d l = here
All-cons P f fs here others (suc k) d l = others k d (omega arith)

All-nil : (P : Found → Type 0) → All P []
All-nil P k d l = absurd (omega arith)

module _ (answer : ℕ → Option Found) (e : ℕ) (ok : AnswersWithin answer e) where
  not_repeat : (at : ℕ) (g f : Found) (b : Bool) → nat_eq g.start g.end && nat_eq g.end at ≡ b → answer at ≡ Some g →
      cond b (answer (at + 1)) (Some g) ≡ Some f → IsPast at e f
  not_repeat at g f true test is next =
      let low = ok.starts (at + 1) f next in
      let mid = ok.ends (at + 1) f next in
      record { later = omega arith; starts = omega arith; forward = mid; within = ok.within (at + 1) f next }
  not_repeat at g f false test is next =
      let low = ok.starts at f (is ∙ next) in
      let mid = ok.ends at f (is ∙ next) in
      let same : g ≡ f = cc in
      record {
        later = elim (cases_lt at f.end) [
          | inl lt ↦ lt
          | inr ge ↦
              let starts = ap (λ (x : Found). x.start) same in
              let ends = ap (λ (x : Found). x.end) same in
              let one : nat_eq g.start g.end ≡ true = eq-eqb g.start g.end (omega arith) in
              let two : nat_eq g.end at ≡ true = eq-eqb g.end at (omega arith) in
              let both : nat_eq g.start g.end && nat_eq g.end at ≡ true = ap (λ b. b && nat_eq g.end at) one ∙ two in
              cc
        ];
        starts = low;
        forward = mid;
        within = ok.within at f (is ∙ next);
      }

  next_is_past : (at : ℕ) (f : Found) (o : Option Found) → answer at ≡ o →
      (if is_repeat (Some at) o then answer (at + 1) else o) ≡ Some f → IsPast at e f
  next_is_past at f None is next = cc
  next_is_past at f (Some g) is next = not_repeat at g f (nat_eq g.start g.end && nat_eq g.end at) refl is next

  -- the next answer after one that ended at the present offset
  next_past : (at : ℕ) (f : Found) → next_answer answer (Some at) at ≡ Some f → IsPast at e f
  next_past at f next = next_is_past at f (answer at) refl next

  rise_on : (at : ℕ) (on : Found → List Found) → ((f : Found) → EndsRise (Some f.end) (on f)) → (o : Option Found) →
      next_answer answer (Some at) at ≡ o → EndsRise (Some at) (and_on o on)
  rise_on at on others None next = tt
  rise_on at on others (Some f) next = ((next_past at f next).later, others f)

  ends_rise_after : (n at : ℕ) → EndsRise (Some at) (answers_from answer n (Some at) at)
  ends_rise_after zero at = tt
  ends_rise_after (suc n) at = rise_on at _ (λ f. ends_rise_after n f.end) (next_answer answer (Some at) at) refl

  rise_first : (on : Found → List Found) → ((f : Found) → EndsRise (Some f.end) (on f)) → (o : Option Found) → EndsRise None (and_on o on)
  rise_first on others None = tt
  rise_first on others (Some f) = others f

  ends_rise_from : (n s : ℕ) → EndsRise None (answers_from answer n None s)
  ends_rise_from zero s = tt
  ends_rise_from (suc n) s = rise_first _ (λ f. ends_rise_after n f.end) (answer s)

  pub ends_rise : (s : ℕ) → EndsRise None (all_answers answer s e)
  ends_rise s = ends_rise_from (e + 2 - s) s

  -- each answer lies between the start and the end
  spans_on : (s at : ℕ) (on : Found → List Found) → s ≤ at →
      ((f : Found) → s ≤ f.end → All (λ g. (s ≤ g.start) × (g.start ≤ g.end) × (g.end ≤ e)) (on f)) → (o : Option Found) →
      next_answer answer (Some at) at ≡ o → All (λ g. (s ≤ g.start) × (g.start ≤ g.end) × (g.end ≤ e)) (and_on o on)
  spans_on s at on le others None next = All-nil (λ g. (s ≤ g.start) × (g.start ≤ g.end) × (g.end ≤ e))
  spans_on s at on le others (Some f) next =
      let past = next_past at f next in
      let low = past.starts in
      let later = past.later in
      All-cons (λ g. (s ≤ g.start) × (g.start ≤ g.end) × (g.end ≤ e)) f (on f) (
        omega arith,
        past.forward,
        past.within,
      ) (others f (omega arith))

  spans_after : (s n at : ℕ) → s ≤ at → All (λ g. (s ≤ g.start) × (g.start ≤ g.end) × (g.end ≤ e)) (answers_from answer n (Some at) at)
  spans_after s zero at le = All-nil (λ g. (s ≤ g.start) × (g.start ≤ g.end) × (g.end ≤ e))
  spans_after s (suc n) at le = spans_on s at _ le (λ f low. spans_after s n f.end low) (next_answer answer (Some at) at) refl

  spans_first : (s : ℕ) (on : Found → List Found) →
      ((f : Found) → s ≤ f.end → All (λ g. (s ≤ g.start) × (g.start ≤ g.end) × (g.end ≤ e)) (on f)) → (o : Option Found) →
      answer s ≡ o → All (λ g. (s ≤ g.start) × (g.start ≤ g.end) × (g.end ≤ e)) (and_on o on)
  spans_first s on others None next = All-nil (λ g. (s ≤ g.start) × (g.start ≤ g.end) × (g.end ≤ e))
  spans_first s on others (Some f) next =
      let low = ok.starts s f next in
      let mid = ok.ends s f next in
      All-cons (λ g. (s ≤ g.start) × (g.start ≤ g.end) × (g.end ≤ e)) f (on f) (low, mid, ok.within s f next) (others f (omega arith))

  spans_from : (n s : ℕ) → All (λ g. (s ≤ g.start) × (g.start ≤ g.end) × (g.end ≤ e)) (answers_from answer n None s)
  spans_from zero s = All-nil (λ g. (s ≤ g.start) × (g.start ≤ g.end) × (g.end ≤ e))
  spans_from (suc n) s = spans_first s _ (λ f low. spans_after s n f.end low) (answer s) refl

  pub spans_within : (s : ℕ) → All (λ g. (s ≤ g.start) × (g.start ≤ g.end) × (g.end ≤ e)) (all_answers answer s e)
  spans_within s = spans_from (e + 2 - s) s

  -- from the end no further answer starts
  none_on : (at : ℕ) (on : Found → List Found) → e ≤ at → (o : Option Found) → next_answer answer (Some at) at ≡ o → [] ≡ and_on o on
  none_on at on le None next = refl
  none_on at on le (Some f) next = let past = next_past at f next in let a = past.later in let b = past.within in absurd (omega arith)

  same_on : (at : ℕ) (on also : Found → List Found) → ((f : Found) → IsPast at e f → on f ≡ also f) → (o : Option Found) →
      next_answer answer (Some at) at ≡ o → and_on o on ≡ and_on o also
  same_on at on also same None next = refl
  same_on at on also same (Some f) next = ap (λ fs. f ∷ fs) (same f (next_past at f next))

  same_after : (n m at : ℕ) → e - at ≤ n → e - at ≤ m → answers_from answer n (Some at) at ≡ answers_from answer m (Some at) at
  same_after zero zero at a b = refl
  same_after zero (suc m) at a b = none_on at _ (omega arith) (next_answer answer (Some at) at) refl
  same_after (suc n) zero at a b = sym (none_on at _ (omega arith) (next_answer answer (Some at) at) refl)
  same_after (suc n) (suc m) at a b =
      same_on at _ _ (λ f past. let later = past.later in same_after n m f.end (omega arith) (omega arith))
      (next_answer answer (Some at) at) refl

  none_first : (s : ℕ) (on : Found → List Found) → e < s → (o : Option Found) → answer s ≡ o → [] ≡ and_on o on
  none_first s on le None next = refl
  none_first s on le (Some f) next =
      let low = ok.starts s f next in let mid = ok.ends s f next in let high = ok.within s f next in absurd (omega arith)

  same_first : (s : ℕ) (on also : Found → List Found) → ((f : Found) → s ≤ f.end → f.end ≤ e → on f ≡ also f) → (o : Option Found) →
      answer s ≡ o → and_on o on ≡ and_on o also
  same_first s on also same None next = refl
  same_first s on also same (Some f) next =
      let low = ok.starts s f next in
      let mid = ok.ends s f next in
      ap (λ fs. f ∷ fs) (same f (omega arith) (ok.within s f next))

  same_from : (n m s : ℕ) → e + 2 - s ≤ n → e + 2 - s ≤ m → answers_from answer n None s ≡ answers_from answer m None s
  same_from zero zero s a b = refl
  same_from zero (suc m) s a b = none_first s _ (omega arith) (answer s) refl
  same_from (suc n) zero s a b = sym (none_first s _ (omega arith) (answer s) refl)
  same_from (suc n) (suc m) s a b =
      same_first s _ _ (λ f low high. same_after n m f.end (omega arith) (omega arith)) (answer s) refl

  pub no_answer_is_cut_off : (s n : ℕ) → e + 2 - s ≤ n → answers_from answer n None s ≡ all_answers answer s e
  no_answer_is_cut_off s n le = same_from n (e + 2 - s) s le (omega arith)
