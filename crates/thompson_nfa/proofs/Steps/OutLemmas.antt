-- How states that stand for others lead out.
use Rattle.std.proofs.Common.{◌≡◌, ◌⊎◌, inl, inr, ℕ, zero, suc, ◌+◌, ◌<◌, ◌≤◌, Option, Some, None, refl, sym, ap, subst, arith, ⊎_elim}
use Rattle.std.proofs.lemmas.Bool.{cases_lt}
use Rattle.nfa_core.specs.Renaming.{stands_for, going_on}
use Rattle.nfa_core.specs.Drafted.{Table}
use Rattle.thompson_nfa.specs.Compiled.{ComesOut, AllComeOut, past_in}

module _ (table : Table) where
  -- the state stands for itself
  pub out_here : (target q : ℕ) → stands_for (table q) ≡ None → ComesOut table target q
  out_here target q none = (0, inl none)

  pub out_at : (target : ℕ) → ComesOut table target target
  out_at target = (0, inr refl)

  -- the state stands for the next one
  pub out_next : (target q next : ℕ) → stands_for (table q) ≡ Some next → ComesOut table target next → ComesOut table target q
  out_next target q next e o =
      let on : past_in table (suc o.0) q ≡ past_in table o.0 next = ap (going_on q (past_in table o.0)) e in
      let P : ℕ → Type 0 = λ k. (stands_for (table k) ≡ None) ⊎ (k ≡ target) in
      (suc o.0, subst P (sym on) o.1)

  -- past one target to another
  pub out_on : (target via n q : ℕ) → (stands_for (table (past_in table n q)) ≡ None) ⊎ (past_in table n q ≡ via) →
      ComesOut table target via → ComesOut table target q
  out_on target via zero q o later = ⊎_elim (λ (none : stands_for (table q) ≡ None). out_here target q none)
      (λ (e : q ≡ via). let P : ℕ → Type 0 = λ k. ComesOut table target k in subst P (sym e) later) o
  out_on target via (suc n) q o later =
      let R : Option ℕ → Type 0 = λ next. stands_for (table q) ≡ next → (stands_for (table (going_on q (past_in table n) next)) ≡ None) ⊎
      (going_on q (past_in table n) next ≡ via) →
      ComesOut table target q in
      let split : (next : Option ℕ) → R next = λ next. elim next as R [
        | None ↦ λ e k. out_here target q e
        | Some next ↦ λ e k. out_next target q next e (out_on target via n next k later)
      ] in
      split (stands_for (table q)) refl o

  -- for several states
  pub all_here : (target q : ℕ) (high : ℕ) → high ≡ q + 1 → ComesOut table target q → AllComeOut table target q high
  all_here target q high e o k low less = let P : ℕ → Type 0 = λ n. ComesOut table target n in let same : q ≡ k = omega arith in
      subst P same o

  pub all_join : (target low mid high : ℕ) → AllComeOut table target low mid → AllComeOut table target mid high →
      AllComeOut table target low high
  all_join target low mid high a b q l h = ⊎_elim (λ (x : q < mid). a q l x) (λ (x : mid ≤ q). b q x h) (cases_lt q mid)

  pub all_on : (target via low high : ℕ) → AllComeOut table via low high → ComesOut table target via → AllComeOut table target low high
  all_on target via low high a later q l h = let o = a q l h in out_on target via o.0 q o.1 later
