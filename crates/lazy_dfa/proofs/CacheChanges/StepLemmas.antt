-- What steps guarantee. Those that make no state are a step from a sentinel, a known step that is read from its cell, and a step by a
-- quit byte.
use Rattle.std.proofs.Common.{◌≡◌, ◌⊎◌, ℕ, ◌+◌, ◌%◌, ◌≤◌, true, false, get_or, set, Option, refl, sym, ap, ◌∙◌, subst, inl, inr, ⊎_elim, true≢false}
use Rattle.std.specs.Prelude.{nat_le, Result, Ok, Err, IfOk, OnOk, IfErr}
use Rattle.std.proofs.lemmas.Bool.{cases_Bool}
use Rattle.lazy_dfa.specs.Caches.{CacheValue, IsShaped, IsCacheOf, IsRow, HeldAt, Leads, state_at}
use Rattle.lazy_dfa.specs.declared.cache_error.CacheError.{CacheError}
use Rattle.lazy_dfa.specs.declared.cache_error.CacheError.TheVariants.{GaveUp}
use Rattle.lazy_dfa.specs.Dfas.{Dfa, IsDfa, IsUnit, class_of}
use Rattle.lazy_dfa.specs.Ids.{tag, unknown_id, quit_id, is_sentinel}
use Rattle.lazy_dfa.specs.Readers.{is_quit}
use Rattle.lazy_dfa.specs.StepPromises.{MakesStep}
use Rattle.lazy_dfa.specs.Steps.{IsHeld, StepsTo, Grew, IsKnown, noted, most_inserts, TagsStep, IsNoted, GivesUp, IsStepCause}
use Rattle.lazy_dfa.specs.Steps.{KeepsOrClears, ClearedFrom, StepNeedsClear, StepAdds}
use Rattle.lazy_dfa.proofs.CacheChanges.AddsLemmas.{same_states, step_adds_none}
use Rattle.lazy_dfa.proofs.CacheChanges.ChangeLemmas.{grew_refl, same_grew, added_refl, grew_cell, set_is_noted, no_row, noted_read}
use Rattle.lazy_dfa.proofs.CacheChanges.ChangeLemmas.{known_cell, unknown_here}
use Rattle.lazy_dfa.proofs.HalfSearches.CountedLemmas.{none_counted, one_counted}
use Rattle.lazy_dfa.proofs.CacheChanges.IsCacheLemmas.{row_of_held, no_step, known_leads, is_cache_stepped, leads_quit, leads_stepped}
use Rattle.lazy_dfa.proofs.CacheChanges.IsCacheLemmas.{steps_of_row}
use Rattle.lazy_dfa.proofs.CacheChanges.LinkedLemmas.{held_leads}
use Rattle.lazy_dfa.proofs.CacheChanges.StartChangeLemmas.{known_tags, known_quits}

-- a step from a row isn't known if nothing is stored for it
pub not_known_there : (d : Dfa) (v : CacheValue) (id : ℕ) (u : Option ℕ) → IsShaped v → IsRow v id → noted d v id u ≡ unknown_id →
    IsKnown d v id u → ⊥
not_known_there d v id u shape row unknown (inl is) = no_row v id shape is row
not_known_there d v id u shape row unknown (inr n) = n unknown

abbrev answered : ℕ → Result ℕ CacheError
answered to = Ok to

no_refusal : (to : ℕ) (e : CacheError) → answered to ≡ Err e → ⊥
no_refusal to e f = absurd cc

abbrev answer_of : Result ℕ CacheError → ℕ
answer_of (Ok to) = to
answer_of (Err e) = 0

-- the ID that a step from a held ID returns is held
pub step_held : (d : Dfa) (id : ℕ) (u : Option ℕ) (old new : CacheValue) (m1 m2 n1 n2 : ℕ) (r : Result ℕ CacheError) → IsHeld old id →
    MakesStep d id u old new m1 m2 n1 n2 r → IfOk r (λ to. IsHeld new to)
step_held d id u old new m1 m2 n1 n2 (Err e) held x = tt
step_held d id u old new m1 m2 n1 n2 (Ok to) held x = ⊎_elim
    (λ (is : is_sentinel id ≡ true). subst (IsHeld new) (sym (ap answer_of (x.loops is)))
    (subst (λ (v : CacheValue). IsHeld v id) (sym (x.same (inl is))) held))
    (λ (plain : is_sentinel id ≡ false).
    let row = row_of_held old id held plain in
    held_leads d new (state_at old row.0) u to (x.step (state_at old row.0) (row.0, row.1, row.2, refl)))
    (cases_Bool (is_sentinel id))

-- a sentinel leads to itself
pub sentinel_step : (d : Dfa) (v : CacheValue) (id : ℕ) (u : Option ℕ) → IsShaped v → is_sentinel id ≡ true → (m n : ℕ) →
    MakesStep d id u v v m m n n (Ok id)
sentinel_step d v id u shape is m n = record {
  loops = λ _. refl;
  quits = λ plain q. absurd (true≢false (sym is ∙ plain));
  step = no_step d v id id u shape is;
  tag = λ s h no_quit alive fresh. absurd (no_row v id shape is (h.0, h.1, h.2));
  known = λ plain k. absurd (true≢false (sym is ∙ plain));
  noted = λ s h k. absurd (no_row v id shape is (h.0, h.1, h.2));
  ok = λ gives. no_row v id shape is gives.row;
  err = tt;
  gave_up = λ e. refl;
  kept = grew_refl d v;
  remains = inl (same_grew d v);
  cause = inl (same_grew d v);
  adds = step_adds_none d v v id u (same_grew d v) (refl, refl, refl);
  same = λ k. refl;
  free = λ k. (refl, refl);
  spares = λ q. (refl, refl);
  determinized = none_counted m 1;
  inserted = none_counted n (most_inserts d);
}

-- a known step leads where its cell says
module _ (d : Dfa) (v : CacheValue) (id c to : ℕ) (u : Option ℕ) (made : IsDfa d) (own : IsCacheOf d v) (row : IsRow v id)
    (unit : IsUnit u) (class : c ≡ class_of d.classes u) (read : to ≡ get_or v.cells (id % tag + c) 0)
    (known : nat_le unknown_id to ≡ false) where
  leads : StepsTo d v v id u to
  leads = known_leads d v id c u made own unit class to read known

  pub known_held : IsHeld v to
  known_held = held_leads d v (state_at v row.0) u to (leads (state_at v row.0) (row.0, row.1, row.2, refl))

  pub known_step : (m n : ℕ) → MakesStep d id u v v m m n n (Ok to)
  known_step m n = record {
    loops = λ is. absurd (no_row v id own.shape is row);
    quits = λ plain q. ap (λ (x : ℕ). Ok x) (known_quits d v id to u leads row q);
    step = leads;
    tag = known_tags d v id to u leads;
    known = λ plain k. ap (λ (x : ℕ). Ok x) (noted_read d v id c to u made own unit class read);
    noted = λ s h k. sym (noted_read d v id c to u made own unit class read);
    ok = λ gives. known_cell d v id c to u made own unit class read known gives.unknown;
    err = tt;
    gave_up = λ e. refl;
    kept = grew_refl d v;
    remains = inl (same_grew d v);
    cause = inl (same_grew d v);
    adds = step_adds_none d v v id u (same_grew d v) (refl, refl, refl);
    same = λ k. refl;
    free = λ k. (refl, refl);
    spares = λ q. (refl, refl);
    determinized = none_counted m 1;
    inserted = none_counted n (most_inserts d);
  }

-- for a quit byte the sentinel is stored
module _ (d : Dfa) (v new : CacheValue) (id c cell to : ℕ) (u : Option ℕ) (made : IsDfa d) (own : IsCacheOf d v) (row : IsRow v id)
    (unit : IsUnit u) (class : c ≡ class_of d.classes u) (read : cell ≡ get_or v.cells (id % tag + c) 0)
    (unread : nat_le unknown_id cell ≡ true) (quit : is_quit d.quits u ≡ true) (sentinel : to ≡ quit_id v.stride)
    (written : new ≡ record v { cells = set v.cells (id % tag + c) to }) where
  unknown : noted d v id u ≡ unknown_id
  unknown = unknown_here d v id c cell u made own unit class read row unread

  here : HeldAt v id (state_at v row.0)
  here = (row.0, row.1, row.2, refl)

  there : Leads d v (state_at v row.0) u to
  there = leads_quit d v (state_at v row.0) u to quit sentinel

  grew : Grew d v new
  grew = grew_cell d v v new id id c row.0 to u made own own unit class row.1 row.2 here written unknown (added_refl v own.shape)

  pub quit_own : IsCacheOf d new
  quit_own = is_cache_stepped d v id c u made own unit class (state_at v row.0) to new here there written

  pub quit_step : (m n : ℕ) → MakesStep d id u v new m m n n (Ok to)
  quit_step m n = record {
    loops = λ is. absurd (no_row v id own.shape is row);
    quits = λ plain q. ap (λ (x : ℕ). Ok x) sentinel;
    step = steps_of_row d v new id row.0 u to own.shape row.1 row.2
        (leads_stepped d v id c u made own unit class (state_at v row.0) to new there written);
    tag = λ s h no_quit alive fresh. absurd (true≢false (sym quit ∙ no_quit));
    known = λ plain k. absurd (k unknown);
    noted = set_is_noted d v v new id id c row.0 to u made own own unit class row.1 row.2 here written;
    ok = λ gives. true≢false (sym quit ∙ gives.no_quit);
    err = tt;
    gave_up = λ e. absurd (no_refusal to GaveUp e);
    kept = inl grew;
    remains = inl grew;
    cause = inl grew;
    adds = step_adds_none d v new id u grew (same_states _ new written);
    same = λ k. absurd (not_known_there d v id u own.shape row unknown k);
    free = λ k. (refl, refl);
    spares = λ q. (refl, refl);
    determinized = none_counted m 1;
    inserted = none_counted n (most_inserts d);
  }

-- what a step guarantees that isn't known and isn't by a quit byte
pub record Makes (d : Dfa) (id : ℕ) (u : Option ℕ) (old new : CacheValue) (m1 m2 n1 n2 : ℕ) (r : Result ℕ CacheError) : Type 0 where
  pub step : IfOk r (λ to. StepsTo d old new id u to)
  pub tag : IfOk r (λ to. TagsStep d old id u to)
  pub noted : IfOk r (λ to. IsNoted d old new id u to)
  pub ok : OnOk r (¬ GivesUp d old id u)
  pub err : IfErr r (λ e. IsStepCause d old id u e)
  pub gave_up : r ≡ Err GaveUp → new ≡ old
  pub kept : KeepsOrClears d old new
  pub remains : OnOk r (Grew d old new ⊎ ClearedFrom d old new id u)
  pub cause : Grew d old new ⊎ StepNeedsClear d old id u
  pub adds : StepAdds d old new id u
  pub determinized : m2 ≡ m1 + 1
  pub inserted : n2 ≤ n1 + most_inserts d

-- all else that steps guarantee is about other steps
pub made_step : (d : Dfa) (id : ℕ) (u : Option ℕ) (old new : CacheValue) (m1 m2 n1 n2 : ℕ) (r : Result ℕ CacheError) → IsShaped old →
    IsRow old id → noted d old id u ≡ unknown_id → is_quit d.quits u ≡ false → Makes d id u old new m1 m2 n1 n2 r →
    MakesStep d id u old new m1 m2 n1 n2 r
made_step d id u old new m1 m2 n1 n2 r shape row unknown quiet x = record {
  loops = λ is. absurd (no_row old id shape is row);
  quits = λ plain q. absurd (true≢false (sym q ∙ quiet));
  step = x.step;
  tag = x.tag;
  known = λ plain k. absurd (k unknown);
  noted = x.noted;
  ok = x.ok;
  err = x.err;
  gave_up = x.gave_up;
  kept = x.kept;
  remains = x.remains;
  cause = x.cause;
  adds = x.adds;
  same = λ k. absurd (not_known_there d old id u shape row unknown k);
  free = λ k. absurd (not_known_there d old id u shape row unknown k);
  spares = λ q. absurd (true≢false (sym q ∙ quiet));
  determinized = one_counted m2 m1 x.determinized;
  inserted = x.inserted;
}
