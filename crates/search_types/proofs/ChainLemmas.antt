-- Answers that are taken one after the other begin the list of all answers, and are all of it if nothing more is answered.
use Rattle.std.proofs.Common.{◌≡◌, ℕ, zero, suc, ◌+◌, ◌-◌, ◌≤◌, Bool, true, false, cond, List, [], ◌∷◌, ◌++◌, length, Option, Some, None}
use Rattle.std.proofs.Common.{refl, sym, ap, ◌∙◌, arith, append-nil}
use Rattle.search_types.specs.Found.{Found}
use Rattle.search_types.specs.AllAnswers.{is_repeat, and_on, next_answer, answers_from, all_answers, AnswersWithin}
use Rattle.search_types.proofs.AllAnswersLemmas.{no_answer_is_cut_off}
use Rattle.search_types.specs.Chains.{IsTaken, IsNextTaken, IsTakenList, IsWholeTakenList, ReportsResults}

module _ (answer : ℕ → Option Found) (low e : ℕ) (answers : ℕ → Option Found → Type 0)
    (one : ReportsResults answers answer low e) (ok : AnswersWithin answer e) where
  -- where the next search is from: after an answer within the span, or as first asked
  abbrev IsGroupSlot : Option ℕ → ℕ → Type 0
  IsGroupSlot None at = (low ≤ at) × (at ≤ e + 1)
  IsGroupSlot (Some last) at = (low ≤ at) × (at ≤ e)

  place_within : (last : Option ℕ) (at : ℕ) → IsGroupSlot last at → (low ≤ at) × (at ≤ e + 1)
  place_within None at p = p
  place_within (Some last) at p = (p.0, omega (arith, p.1))

  taken_is : (last : Option ℕ) (at : ℕ) (o taken : Option Found) (b : Bool) → is_repeat last o ≡ b → IsGroupSlot last at → o ≡ answer at →
      IsTaken answers at o b taken →
      taken ≡ cond b (answer (at + 1)) (answer at)
  taken_is last at o taken false is p same t = t ∙ same
  taken_is None at o taken true is p same t = cc
  taken_is (Some last) at o taken true is p same t = one (at + 1) taken (omega (arith, p.0)) (omega (arith, p.1)) t

  next_is : (last : Option ℕ) (at : ℕ) (taken : Option Found) → IsGroupSlot last at → IsNextTaken answers last at taken →
      taken ≡ next_answer answer last at
  next_is last at taken p n =
      let within = place_within last at p in
      let same : n.0 ≡ answer at = one at n.0 within.0 within.1 n.1 in
      taken_is last at n.0 taken (is_repeat last n.0) refl p same n.2
      ∙ ap (λ o. cond (is_repeat last o) (answer (at + 1)) (answer at)) same

  past_start : (at : ℕ) (f : Found) → low ≤ at → answer at ≡ Some f → (low ≤ f.end) × (f.end ≤ e)
  past_start at f p is = let start = ok.starts at f is in let end_after = ok.ends at f is in (omega arith, ok.within at f is)

  end_within : (last : Option ℕ) (at : ℕ) (f : Found) (b : Bool) → low ≤ at → Some f ≡ cond b (answer (at + 1)) (answer at) →
      (low ≤ f.end) × (f.end ≤ e)
  end_within last at f true p is = past_start (at + 1) f (omega arith) (sym is)
  end_within last at f false p is = past_start at f p (sym is)

  chain_on : (last : Option ℕ) (at : ℕ) (f : Found) (fs rest : List Found) (n : ℕ) → Some f ≡ next_answer answer last at →
      answers_from answer n (Some f.end) f.end ≡ fs ++ rest → answers_from answer (suc n) last at ≡ f ∷ (fs ++ rest)
  chain_on last at f fs rest n next on = ap (λ o. and_on o (λ g. answers_from answer n (Some g.end) g.end)) (sym next)
      ∙ ap (λ gs. f ∷ gs) on

  chain_begins : (last : Option ℕ) (at : ℕ) (fs : List Found) (n : ℕ) → length fs ≤ n → IsGroupSlot last at →
      IsTakenList answers last at fs →
      (rest : List Found) × (answers_from answer n last at ≡ fs ++ rest)
  chain_begins last at [] n l p c = (answers_from answer n last at, refl)
  chain_begins last at (f ∷ fs) zero l p c = absurd (omega arith)
  chain_begins last at (f ∷ fs) (suc n) l p c =
      let next = next_is last at (Some f) p c.0 in
      let more = chain_begins (Some f.end) f.end fs n (omega arith) (end_within last at f (is_repeat last (answer at))
      (place_within last at p).0 next) c.1 in
      (more.0, chain_on last at f fs more.0 n next more.1)

  none_next : (last : Option ℕ) (at n : ℕ) → None ≡ next_answer answer last at → answers_from answer n last at ≡ []
  none_next last at zero next = refl
  none_next last at (suc n) next = ap (λ o. and_on o (λ g. answers_from answer n (Some g.end) g.end)) (sym next)

  chain_is_all : (last : Option ℕ) (at : ℕ) (fs : List Found) (n : ℕ) → length fs ≤ n → IsGroupSlot last at →
      IsWholeTakenList answers last at fs →
      answers_from answer n last at ≡ fs
  chain_is_all last at [] n l p c = none_next last at n (next_is last at None p c)
  chain_is_all last at (f ∷ fs) zero l p c = absurd (omega arith)
  chain_is_all last at (f ∷ fs) (suc n) l p c =
      let next = next_is last at (Some f) p c.0 in
      let more = chain_is_all (Some f.end) f.end fs n (omega arith) (end_within last at f (is_repeat last (answer at))
      (place_within last at p).0 next) c.1 in
      chain_on last at f fs [] n next (more ∙ sym (append-nil fs)) ∙ ap (λ gs. f ∷ gs) (append-nil fs)

  -- a chain is a beginning of the list of all answers, and it is all of it if nothing more is answered
  pub chains_begin_the_list : (s : ℕ) (fs : List Found) → low ≤ s → s ≤ e + 1 → IsTakenList answers None s fs → (rest : List Found) ×
      (all_answers answer s e ≡ fs ++ rest)
  chains_begin_the_list s fs from l c =
      let n : ℕ = e + 2 - s + length fs in
      let more = chain_begins None s fs n (omega arith) (from, l) c in
      (more.0, sym (no_answer_is_cut_off answer e ok s n (omega arith)) ∙ more.1)

  pub whole_chains_are_the_list : (s : ℕ) (fs : List Found) → low ≤ s → s ≤ e + 1 → IsWholeTakenList answers None s fs →
      all_answers answer s e ≡ fs
  whole_chains_are_the_list s fs from l c =
      let n : ℕ = e + 2 - s + length fs in
      sym (no_answer_is_cut_off answer e ok s n (omega arith)) ∙ chain_is_all None s fs n (omega arith) (from, l) c
