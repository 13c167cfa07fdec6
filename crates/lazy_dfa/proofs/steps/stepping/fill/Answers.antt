use Rattle.std.proofs.Common.{◌≡◌, ◌⊎◌, Ok, Err, true, false, subst, inl, inr, ⊎_elim, refl, Some, rules}
use Rattle.search_core.specs.Units.{unit_byte}
use Rattle.lazy_dfa.specs.Caches.{CacheValue, HeldAt, Leads, state_at, with_state, needs_clear}
use Rattle.lazy_dfa.specs.Steps.{Added, Grew, AddsOrClears, kept_alone}
use Rattle.lazy_dfa.proofs.CacheChanges.IsCacheLemmas.{row_place, is_cache_stepped, leads_stepped, leads_to, steps_of_row}
use Rattle.lazy_dfa.proofs.CacheChanges.ChangeLemmas.{grew_of, grew_added, grew_cell, grew_set, remains_set}
use Rattle.lazy_dfa.proofs.CacheChanges.ChangeLemmas.{set_is_noted, step_cause, step_needs, no_cause}
use Rattle.lazy_dfa.proofs.CacheChanges.StartChangeLemmas.{step_tags}
use Rattle.lazy_dfa.proofs.CacheChanges.AddsLemmas.{same_states, comes_written, step_adds}
use Rattle.lazy_dfa.proofs.CacheChanges.StepLemmas.{made_step}
use Rattle.lazy_dfa.proofs.steps.stepping.fill.Goals as goal

pub set_cell-requires : goal.set_cell-requires
set_cell-requires g c = let h = c.in-Ok.ensures.rows.from in
    row_place c.args.dfa.now c.place.new.cache c.in-Ok.rows.from c.args.class
    (unit_byte c.args.unit) c.is_made.ensures c.in-Ok.ensures.own c.requires.unit c.requires.class (h.0, h.1, h.2)

led : (g : Rattle.lazy_dfa.proofs.steps.stepping.fill.Given.Over) (c : goal.After-set_cell g) →
    Leads c.args.dfa.now c.place.new.cache (state_at c.args.cache.now c.row-k.result) (unit_byte c.args.unit) c.in-Ok.rows.to
led g c = leads_to c.args.dfa.now c.place.new.cache (state_at c.args.cache.now c.row-k.result) c.in_ok-state.state
    (unit_byte c.args.unit) c.in-Ok.rows.to c.requires.no_quit
    c.in_ok-state.ensures.value c.in-Ok.ensures.rows.to

held : (g : Rattle.lazy_dfa.proofs.steps.stepping.fill.Given.Over) (c : goal.After-set_cell g) →
    HeldAt c.place.new.cache c.in-Ok.rows.from (state_at c.args.cache.now c.row-k.result)
held g c = subst (λ (v : CacheValue). HeldAt c.place.new.cache c.in-Ok.rows.from (state_at v c.row-k.result)) c.state_after.ensures.same
    c.in-Ok.ensures.rows.from

pub returns-in-Ok-clause-own : goal.returns-in-Ok-clause-own
returns-in-Ok-clause-own g c =
    is_cache_stepped c.args.dfa.now c.place.new.cache c.in-Ok.rows.from c.args.class
    (unit_byte c.args.unit) c.is_made.ensures c.in-Ok.ensures.own c.requires.unit c.requires.class
    (state_at c.args.cache.now c.row-k.result) c.in-Ok.rows.to c.set_cell.new.self (held g c) (led g c) c.set_cell.ensures

-- ---- no state is made

pub returns-in_err-state-clause-step : goal.returns-in_err-state-clause-step
returns-in_err-state-clause-step g c = made_step c.args.dfa.now c.args.id (unit_byte c.args.unit) c.args.cache.now c.state_after.new.cache
    c.args.work.now.determinized c.state_after.new.work.determinized c.args.work.now.inserted c.state_after.new.work.inserted
    c.from_residual.result c.requires.own.shape c.requires.row c.requires.unknown c.requires.no_quit (record {
      step = search rules;
      tag = search rules;
      noted = search rules;
      ok = search rules;
      err = search rules;
      gave_up = search rules;
      kept = search rules;
      remains = search rules;
      cause = search rules;
      adds = search rules;
      determinized = search rules;
      inserted = search rules;
    })

-- ---- a state that gets no ID

grows_by : (g : Rattle.lazy_dfa.proofs.steps.stepping.fill.Given.Over) (c : goal.In-Err g) → Added c.state_after.new.cache c.place.new.cache →
    Grew c.args.dfa.now c.args.cache.now c.place.new.cache
grows_by g c a = grew_added c.args.dfa.now c.args.cache.now c.place.new.cache
    c.is_made.ensures c.requires.own (subst (λ (v : CacheValue). Added v c.place.new.cache) c.state_after.ensures.same a)

pub returns-in-Err-clause-step : goal.returns-in-Err-clause-step
returns-in-Err-clause-step g c = made_step c.args.dfa.now c.args.id (unit_byte c.args.unit) c.args.cache.now c.place.new.cache
    c.args.work.now.determinized c.state_after.new.work.determinized c.args.work.now.inserted c.state_after.new.work.inserted
    (Err c.in-Err.e) c.requires.own.shape c.requires.row c.requires.unknown c.requires.no_quit (record {
      step = search rules;
      tag = search rules;
      noted = search rules;
      ok = search rules;
      err = step_cause c.args.dfa.now c.args.cache.now c.state_after.new.cache c.args.id c.row-k.result
          (unit_byte c.args.unit) c.in_ok-state.state
          c.requires.own.shape c.state_after.ensures.same c.row-k.ensures.inside c.row-k.ensures.id c.in_ok-state.ensures.value c.in-Err.e
          c.requires.unknown c.requires.no_quit c.in-Err.ensures.outcome.err;
      gave_up = search rules;
      kept = grew_of c.args.dfa.now c.args.cache.now c.place.new.cache c.is_made.ensures c.requires.own
          (subst (λ (v : CacheValue). AddsOrClears v c.place.new.cache) c.state_after.ensures.same c.in-Err.ensures.changes.kept);
      remains = search rules;
      cause = ⊎_elim
          (λ (a : Added c.state_after.new.cache c.place.new.cache). inl (grew_added c.args.dfa.now c.args.cache.now c.place.new.cache
          c.is_made.ensures c.requires.own (subst (λ (v : CacheValue). Added v c.place.new.cache) c.state_after.ensures.same a)))
          (λ (n : needs_clear c.args.dfa.now c.state_after.new.cache c.in_ok-state.state ≡ true). inr (
          step_needs c.args.dfa.now c.args.cache.now c.state_after.new.cache c.args.id c.row-k.result
          (unit_byte c.args.unit) c.in_ok-state.state
          c.requires.own.shape c.state_after.ensures.same c.row-k.ensures.inside c.row-k.ensures.id c.in_ok-state.ensures.value
          c.requires.unknown c.requires.no_quit n
          ))
          c.in-Err.ensures.changes.cause;
      adds = step_adds c.args.dfa.now c.args.cache.now c.state_after.new.cache c.place.new.cache c.args.id
          c.row-k.result (unit_byte c.args.unit) c.in_ok-state.state
          c.requires.own.shape c.state_after.ensures.same c.row-k.ensures.inside c.row-k.ensures.id c.in_ok-state.ensures.value
          c.requires.no_quit
          (comes_written c.args.dfa.now false (Some c.row-k.result) c.in_ok-state.state c.state_after.new.cache c.place.new.cache
          c.place.new.cache (refl, refl, refl)
          (Added c.state_after.new.cache c.place.new.cache) (Grew c.args.dfa.now c.args.cache.now c.place.new.cache)
          (grows_by g c) c.in-Err.ensures.changes.adds);
      determinized = search rules;
      inserted = search rules;
    })

-- ---- a state that gets an ID

pub returns-in-Ok-clause-step : goal.returns-in-Ok-clause-step
returns-in-Ok-clause-step g c = made_step c.args.dfa.now c.args.id (unit_byte c.args.unit) c.args.cache.now c.set_cell.new.self
    c.args.work.now.determinized c.state_after.new.work.determinized c.args.work.now.inserted c.state_after.new.work.inserted
    (Ok c.in-Ok.rows.to) c.requires.own.shape c.requires.row c.requires.unknown c.requires.no_quit (record {
      step = steps_of_row c.args.dfa.now c.args.cache.now c.set_cell.new.self c.args.id c.row-k.result
          (unit_byte c.args.unit) c.in-Ok.rows.to c.requires.own.shape c.row-k.ensures.inside c.row-k.ensures.id
          (leads_stepped c.args.dfa.now c.place.new.cache c.in-Ok.rows.from c.args.class
          (unit_byte c.args.unit) c.is_made.ensures c.in-Ok.ensures.own c.requires.unit c.requires.class
          (state_at c.args.cache.now c.row-k.result) c.in-Ok.rows.to c.set_cell.new.self (led g c) c.set_cell.ensures);
      tag = step_tags c.args.dfa.now c.args.cache.now c.state_after.new.cache c.args.id c.row-k.result
          (unit_byte c.args.unit) c.in_ok-state.state c.in-Ok.rows.to c.requires.own.shape c.state_after.ensures.same
          c.row-k.ensures.inside c.row-k.ensures.id c.in_ok-state.ensures.value c.in-Ok.ensures.rows.tag;
      noted = set_is_noted c.args.dfa.now c.args.cache.now c.place.new.cache c.set_cell.new.self c.args.id
          c.in-Ok.rows.from c.args.class c.row-k.result c.in-Ok.rows.to (unit_byte c.args.unit)
          c.is_made.ensures c.requires.own c.in-Ok.ensures.own c.requires.unit c.requires.class c.row-k.ensures.inside c.row-k.ensures.id
          (held g c) c.set_cell.ensures;
      ok = no_cause c.args.dfa.now c.args.cache.now c.state_after.new.cache c.args.id c.row-k.result
          (unit_byte c.args.unit) c.in_ok-state.state
          c.requires.own.shape c.state_after.ensures.same c.row-k.ensures.inside c.row-k.ensures.id c.in_ok-state.ensures.value
          c.in-Ok.ensures.outcome.ok;
      err = search rules;
      gave_up = search rules;
      kept = grew_set c.args.dfa.now c.args.cache.now c.place.new.cache c.set_cell.new.self c.args.id c.in-Ok.rows.from
          c.args.class c.row-k.result c.in-Ok.rows.to (unit_byte c.args.unit)
          c.is_made.ensures c.requires.own c.in-Ok.ensures.own c.requires.unit c.requires.class c.row-k.ensures.inside c.row-k.ensures.id
          (held g c) c.set_cell.ensures c.requires.unknown
          (subst (λ (v : CacheValue). AddsOrClears v c.place.new.cache) c.state_after.ensures.same c.in-Ok.ensures.changes.kept);
      remains = remains_set c.args.dfa.now c.args.cache.now c.place.new.cache c.set_cell.new.self c.args.id
          c.in-Ok.rows.from c.args.class c.row-k.result c.in-Ok.rows.to (unit_byte c.args.unit)
          c.is_made.ensures c.requires.own c.in-Ok.ensures.own c.requires.unit c.requires.class c.row-k.ensures.inside c.row-k.ensures.id
          (held g c) c.set_cell.ensures c.in_ok-state.state c.requires.unknown
          c.in_ok-state.ensures.value
          (subst (λ (v : CacheValue). Added v c.place.new.cache ⊎ (c.place.new.cache ≡ with_state false c.in_ok-state.state
          (kept_alone v c.row-k.result))) c.state_after.ensures.same c.in-Ok.ensures.changes.made);
      cause = ⊎_elim
          (λ (a : Added c.state_after.new.cache c.place.new.cache). inl (
          grew_cell c.args.dfa.now c.args.cache.now c.place.new.cache c.set_cell.new.self c.args.id c.in-Ok.rows.from
          c.args.class c.row-k.result c.in-Ok.rows.to (unit_byte c.args.unit)
          c.is_made.ensures c.requires.own c.in-Ok.ensures.own c.requires.unit c.requires.class c.row-k.ensures.inside c.row-k.ensures.id
          (held g c) c.set_cell.ensures c.requires.unknown
          (subst (λ (v : CacheValue). Added v c.place.new.cache) c.state_after.ensures.same a)
          ))
          (λ (n : needs_clear c.args.dfa.now c.state_after.new.cache c.in_ok-state.state ≡ true). inr (
          step_needs c.args.dfa.now c.args.cache.now c.state_after.new.cache c.args.id c.row-k.result
          (unit_byte c.args.unit) c.in_ok-state.state
          c.requires.own.shape c.state_after.ensures.same c.row-k.ensures.inside c.row-k.ensures.id c.in_ok-state.ensures.value
          c.requires.unknown c.requires.no_quit n
          ))
          c.in-Ok.ensures.changes.cause;
      adds = step_adds c.args.dfa.now c.args.cache.now c.state_after.new.cache c.set_cell.new.self c.args.id
          c.row-k.result (unit_byte c.args.unit) c.in_ok-state.state
          c.requires.own.shape c.state_after.ensures.same c.row-k.ensures.inside c.row-k.ensures.id c.in_ok-state.ensures.value
          c.requires.no_quit
          (comes_written c.args.dfa.now false (Some c.row-k.result) c.in_ok-state.state c.state_after.new.cache c.place.new.cache
          c.set_cell.new.self (same_states _ c.set_cell.new.self c.set_cell.ensures)
          (Added c.state_after.new.cache c.place.new.cache) (Grew c.args.dfa.now c.args.cache.now c.set_cell.new.self)
          (λ (a : Added c.state_after.new.cache c.place.new.cache).
          grew_cell c.args.dfa.now c.args.cache.now c.place.new.cache c.set_cell.new.self c.args.id c.in-Ok.rows.from
          c.args.class c.row-k.result c.in-Ok.rows.to (unit_byte c.args.unit)
          c.is_made.ensures c.requires.own c.in-Ok.ensures.own c.requires.unit c.requires.class c.row-k.ensures.inside c.row-k.ensures.id
          (held g c) c.set_cell.ensures c.requires.unknown
          (subst (λ (v : CacheValue). Added v c.place.new.cache) c.state_after.ensures.same a))
          c.in-Ok.ensures.changes.adds);
      determinized = search rules;
      inserted = search rules;
    })
