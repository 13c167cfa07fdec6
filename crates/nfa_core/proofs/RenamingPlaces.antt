-- A chain of the automaton that leads to a kept state comes from a chain of the builder's table that leads there.
use Rattle.std.proofs.Common.{◌≡◌, ℕ, ◌<◌, ⊎_elim, Bool, true, false, if◌then◌else◌, List, length, sym, ap, ◌∙◌, Option, Some, None}
use Rattle.std.specs.Bool.{nat_eq}
use Rattle.std.proofs.lemmas.Bool.{cases_Bool, cond-true, cond-false, eqb-true, eq-eqb}
use Rattle.nfa_core.specs.BuilderStates.{draft_at, Assembly}
use Rattle.nfa_core.specs.CanBuild.{CanBuild}
use Rattle.nfa_core.specs.Drafted.{table_ways}
use Rattle.nfa_core.specs.Places.{same_pair}
use Rattle.nfa_core.specs.Runs.{IsChain, last_or}
use Rattle.nfa_core.specs.Ways.{Text, ways}
use Rattle.nfa_core.specs.Renaming.{stands_for, new_name, automaton_of}
use Rattle.nfa_core.proofs.RenamingAutomaton.{one_state}
use Rattle.nfa_core.proofs.RenamingAnswers.{AnswerAlike, renamed_back}

module _ (b : Assembly) (x y : ℕ) (can : CanBuild b x y) (t : Text) (c : ℕ) (c_there : c < length b.drafts)
    (c_stands : stands_for (draft_at b.drafts c) ≡ None) where
  -- the answer is the offset, if it is in state c
  abbrev found : ℕ × ℕ → Option ℕ
  found p = if nat_eq p.1 c then Some p.0 else None

  abbrev found_built : ℕ × ℕ → Option ℕ
  found_built p = if nat_eq p.1 (new_name b.drafts c) then Some p.0 else None

  same_found : (q : ℕ) → q < length b.drafts → stands_for (draft_at b.drafts q) ≡ None →
      nat_eq (new_name b.drafts q) (new_name b.drafts c) ≡ nat_eq q c
  same_found q here e = ⊎_elim
      (λ (is : nat_eq q c ≡ true). eq-eqb (new_name b.drafts q) (new_name b.drafts c) (ap (new_name b.drafts) (eqb-true q c is)) ∙ sym is)
      (λ (isnt : nat_eq q c ≡ false). ⊎_elim
      (λ (is : nat_eq (new_name b.drafts q) (new_name b.drafts c) ≡ true).
      let one = one_state b.drafts q c here c_there e c_stands (eqb-true (new_name b.drafts q) (new_name b.drafts c) is) in
      is ∙ sym (eq-eqb q c one))
      (λ (other : nat_eq (new_name b.drafts q) (new_name b.drafts c) ≡ false). other ∙ sym isnt)
      (cases_Bool (nat_eq (new_name b.drafts q) (new_name b.drafts c))))
      (cases_Bool (nat_eq q c))

  not_found : (p : ℕ × ℕ) (r : ℕ) → stands_for (draft_at b.drafts p.1) ≡ Some r → found p ≡ None
  not_found p r e = ⊎_elim
      (λ (is : nat_eq p.1 c ≡ true). let same : p.1 ≡ c = eqb-true p.1 c is in
      let none : stands_for (draft_at b.drafts p.1) ≡ None = ap (λ (k : ℕ). stands_for (draft_at b.drafts k)) same ∙ c_stands in cc)
      (λ (isnt : nat_eq p.1 c ≡ false). cond-false (nat_eq p.1 c) _ _ isnt)
      (cases_Bool (nat_eq p.1 c))

  places_alike : AnswerAlike b x y can t found found_built
  places_alike = record { kept = λ p here e. ap (λ (k : Bool). if k then Some p.0 else None) (same_found p.1 here e); stands = not_found }

  -- the state at the end of such a chain
  state_found : (p : ℕ × ℕ) (j : ℕ) → found p ≡ Some j → p.1 ≡ c
  state_found p j e = ⊎_elim
      (λ (is : nat_eq p.1 c ≡ true). eqb-true p.1 c is)
      (λ (isnt : nat_eq p.1 c ≡ false). let none : found p ≡ None = cond-false (nat_eq p.1 c) _ _ isnt in cc)
      (cases_Bool (nat_eq p.1 c))

  pub chain_to : (q i : ℕ) (s : List (ℕ × ℕ)) → q < length b.drafts →
      IsChain same_pair (ways (automaton_of b x y) t) (i, new_name b.drafts q) s →
      (last_or (i, new_name b.drafts q) s).1 ≡ new_name b.drafts c →
      (r : List (ℕ × ℕ)) × IsChain same_pair (table_ways b.reverse t (draft_at b.drafts)) (i, q) r × ((last_or (i, q) r).1 ≡ c)
  chain_to q i s here chain last =
      let e : ℕ × ℕ = last_or (i, new_name b.drafts q) s in
      let is : found_built e ≡ Some e.0 = cond-true (nat_eq e.1 (new_name b.drafts c)) _ _ (eq-eqb e.1 (new_name b.drafts c) last) in
      let r = renamed_back b x y can t found found_built places_alike (i, q) s e.0 here chain is in
      (r.0, r.1, state_found (last_or (i, q) r.0) e.0 r.2)
