use Rattle.std.proofs.Common.{◌≡◌, ◌⊎◌, ◌∙◌, ◌+◌, ◌*◌, ◌<◌, ℕ, true, sym, subst, ap, inl, inr, ⊎_elim, set, length, refl, rules}
use Rattle.determinize_core.specs.States.{StateValue}
use Rattle.lazy_dfa.specs.Caches.{CacheValue, slot_of_start, cleared, needs_clear}
use Rattle.lazy_dfa.specs.Dfas.{first_state}
use Rattle.lazy_dfa.specs.StartCalls.{GivesStart}
use Rattle.lazy_dfa.specs.Steps.{IsCause, Added}
use Rattle.lazy_dfa.proofs.CacheChanges.ChangeLemmas.{grew_added}
use Rattle.lazy_dfa.proofs.CacheChanges.IsCacheLemmas.{started, names_started, known_begins}
use Rattle.lazy_dfa.proofs.CacheChanges.StartChangeLemmas.{not_fresh, unknown_start, unmade_start, on_err, grew_start, start_kept}
use Rattle.lazy_dfa.proofs.CacheChanges.StartChangeLemmas.{start_remains, start_tags}
use Rattle.lazy_dfa.proofs.CacheChanges.AddsLemmas.{same_states, start_comes}
use Rattle.lazy_dfa.proofs.steps.starting.start_in_mode.Goals as goal

-- ---- a start that was known

pub returns-then-not-is_not_known-clause-answer : goal.returns-then-not-is_not_known-clause-answer
returns-then-not-is_not_known-clause-answer g c = record {
  start = search rules;
  noted = search rules;
  known = search rules;
  tag = λ alive fresh. absurd (not_fresh c.args.dfa.now c.args.cache.now c.start-known.result
      (first_state c.args.dfa.now c.args.start c.args.name)
      (known_begins c.args.dfa.now c.args.cache.now c.args.mode (c.args.mode * 7 + c.as_usize.result) c.args.name c.start-known.result
      c.args.start c.requires.own
      (ap (λ (n : ℕ). c.args.mode * 7 + n) c.as_usize.ensures.number) c.requires.inside c.requires.named c.start-known.ensures
      (sym c.is_not_known.ensures ∙ c.if-not-is_not_known.true))
      alive fresh);
  unknown = search rules;
  ok = search rules;
  err = search rules;
}

-- ---- no state is made

pub returns-in_err-state-clause-answer : goal.returns-in_err-state-clause-answer
returns-in_err-state-clause-answer g c =
    let empty = unknown_start c.args.dfa.now c.args.cache.now c.args.mode (c.args.mode * 7 + c.as_usize.result) c.args.name
    c.start-known.result c.args.start c.requires.own
    (ap (λ (n : ℕ). c.args.mode * 7 + n) c.as_usize.ensures.number) c.requires.inside c.requires.named c.start-known.ensures
    (sym c.is_not_known.ensures ∙ c.if-not-is_not_known.false) in
    record {
      start = search rules;
      noted = search rules;
      known = λ n. absurd (n empty);
      tag = search rules;
      unknown = on_err c.from_residual.result empty;
      ok = search rules;
      err = search rules;
    }

pub returns-in_err-state-clause-made : goal.returns-in_err-state-clause-made
returns-in_err-state-clause-made g c =
    let empty = unknown_start c.args.dfa.now c.args.cache.now c.args.mode (c.args.mode * 7 + c.as_usize.result) c.args.name
    c.start-known.result c.args.start c.requires.own
    (ap (λ (n : ℕ). c.args.mode * 7 + n) c.as_usize.ensures.number) c.requires.inside c.requires.named c.start-known.ensures
    (sym c.is_not_known.ensures ∙ c.if-not-is_not_known.false) in
    record {
      free = λ n. absurd (n empty);
      determinized = search rules;
      inserted = search rules;
    }

-- ---- a state that gets no ID

pub returns-in-Err-clause-answer : goal.returns-in-Err-clause-answer
returns-in-Err-clause-answer g c =
    let empty = unknown_start c.args.dfa.now c.args.cache.now c.args.mode (c.args.mode * 7 + c.as_usize.result) c.args.name
    c.start-known.result c.args.start c.requires.own
    (ap (λ (n : ℕ). c.args.mode * 7 + n) c.as_usize.ensures.number) c.requires.inside c.requires.named c.start-known.ensures
    (sym c.is_not_known.ensures ∙ c.if-not-is_not_known.false) in
    record {
      start = search rules;
      noted = search rules;
      known = λ n. absurd (n empty);
      tag = search rules;
      unknown = empty;
      ok = search rules;
      err = subst (λ (s : StateValue). IsCause c.args.dfa.now c.args.cache.now s c.in-Err.e) c.in_ok-state.ensures.value
          (subst (λ (v : CacheValue). IsCause c.args.dfa.now v c.in_ok-state.state c.in-Err.e) c.first_of.ensures.same c.in-Err.ensures.outcome.err);
    }

pub returns-in-Err-clause-changes : goal.returns-in-Err-clause-changes
returns-in-Err-clause-changes g c =
    let empty = unknown_start c.args.dfa.now c.args.cache.now c.args.mode (c.args.mode * 7 + c.as_usize.result) c.args.name
    c.start-known.result c.args.start c.requires.own
    (ap (λ (n : ℕ). c.args.mode * 7 + n) c.as_usize.ensures.number) c.requires.inside c.requires.named c.start-known.ensures
    (sym c.is_not_known.ensures ∙ c.if-not-is_not_known.false) in
    record {
      same = λ n. absurd (n empty);
      kept = unmade_start c.args.dfa.now c.args.cache.now c.place_start.new.cache
          (subst (λ (v : CacheValue). (c.place_start.new.cache ≡ v) ⊎ (c.place_start.new.cache ≡ cleared v)) c.first_of.ensures.same
          c.in-Err.ensures.changes.unmade);
      remains = search rules;
      cause = ⊎_elim
          (λ (a : Added c.first_of.new.cache c.place_start.new.cache). inl (grew_added c.args.dfa.now c.args.cache.now c.place_start.new.cache
          c.is_made.ensures c.requires.own (subst (λ (v : CacheValue). Added v c.place_start.new.cache) c.first_of.ensures.same a)))
          (λ (n : needs_clear c.args.dfa.now c.first_of.new.cache c.in_ok-state.state ≡ true). inr (
            empty,
            subst (λ (s : StateValue). needs_clear c.args.dfa.now c.args.cache.now s ≡ true) c.in_ok-state.ensures.value
                (subst (λ (v : CacheValue). needs_clear c.args.dfa.now v c.in_ok-state.state ≡ true) c.first_of.ensures.same n),
          ))
          c.in-Err.ensures.changes.cause;
      adds = inr (start_comes c.args.dfa.now c.args.cache.now c.first_of.new.cache c.place_start.new.cache
          c.place_start.new.cache c.in_ok-state.state (first_state c.args.dfa.now c.args.start c.args.name) c.first_of.ensures.same
          c.in_ok-state.ensures.value (refl, refl, refl)
          (λ (a : Added c.args.cache.now c.place_start.new.cache). grew_added c.args.dfa.now c.args.cache.now c.place_start.new.cache
          c.is_made.ensures c.requires.own a)
          c.in-Err.ensures.changes.adds);
      gave_up = search rules;
    }

pub returns-in-Err-clause-made : goal.returns-in-Err-clause-made
returns-in-Err-clause-made g c =
    let empty = unknown_start c.args.dfa.now c.args.cache.now c.args.mode (c.args.mode * 7 + c.as_usize.result) c.args.name
    c.start-known.result c.args.start c.requires.own
    (ap (λ (n : ℕ). c.args.mode * 7 + n) c.as_usize.ensures.number) c.requires.inside c.requires.named c.start-known.ensures
    (sym c.is_not_known.ensures ∙ c.if-not-is_not_known.false) in
    record {
      free = λ n. absurd (n empty);
      determinized = search rules;
      inserted = search rules;
    }

-- ---- a state that gets an ID

placed : (g : Rattle.lazy_dfa.proofs.steps.starting.start_in_mode.Given.Over) (c : goal.After-set_start g) →
    GivesStart c.args.dfa.now c.args.cache.now c.place_start.new.cache (first_state c.args.dfa.now c.args.start c.args.name) c.in-Ok.id
placed g c = subst (λ (w : CacheValue). GivesStart c.args.dfa.now w c.place_start.new.cache
    (first_state c.args.dfa.now c.args.start c.args.name) c.in-Ok.id) c.first_of.ensures.same
    (subst (λ (t : StateValue). GivesStart c.args.dfa.now c.first_of.new.cache c.place_start.new.cache t c.in-Ok.id)
    c.in_ok-state.ensures.value c.in-Ok.ensures.start.made)

noted_at : (g : Rattle.lazy_dfa.proofs.steps.starting.start_in_mode.Given.Over) (c : goal.After-set_start g) →
    c.set_start.new.self ≡ record c.place_start.new.cache {
      starts = set c.place_start.new.cache.starts
          (slot_of_start c.args.mode c.args.start) c.in-Ok.id;
    }
noted_at g c = c.set_start.ensures ∙ ap (λ (n : ℕ). record c.place_start.new.cache {
  starts =
      set c.place_start.new.cache.starts (c.args.mode * 7 + n) c.in-Ok.id;
}) c.as_usize.ensures.number

pub returns-in-Ok-clause-own : goal.returns-in-Ok-clause-own
returns-in-Ok-clause-own g c = started c.args.dfa.now c.place_start.new.cache c.set_start.new.self c.args.mode
    (c.args.mode * 7 + c.as_usize.result) c.args.name c.in-Ok.id c.args.start c.in_ok-state.state
    (ap (λ (n : ℕ). c.args.mode * 7 + n) c.as_usize.ensures.number) c.in_ok-state.ensures.value c.in-Ok.ensures.start.to c.set_start.ensures
    c.in-Ok.ensures.own
    (subst (λ (n : ℕ). slot_of_start c.args.mode c.args.start < n) (sym (c.in-Ok.ensures.changes.slots
    ∙ ap (λ (v : CacheValue). length v.starts) c.first_of.ensures.same)) c.requires.inside) c.requires.named

pub returns-in-Ok-clause-answer : goal.returns-in-Ok-clause-answer
returns-in-Ok-clause-answer g c =
    let empty = unknown_start c.args.dfa.now c.args.cache.now c.args.mode (c.args.mode * 7 + c.as_usize.result) c.args.name
    c.start-known.result c.args.start c.requires.own
    (ap (λ (n : ℕ). c.args.mode * 7 + n) c.as_usize.ensures.number) c.requires.inside c.requires.named c.start-known.ensures
    (sym c.is_not_known.ensures ∙ c.if-not-is_not_known.false) in
    record {
      start = names_started c.args.dfa.now c.place_start.new.cache c.set_start.new.self c.args.mode
          (c.args.mode * 7 + c.as_usize.result) c.args.name c.in-Ok.id c.args.start c.in_ok-state.state
          (ap (λ (n : ℕ). c.args.mode * 7 + n) c.as_usize.ensures.number) c.in_ok-state.ensures.value c.in-Ok.ensures.start.to c.set_start.ensures;
      noted = search rules;
      known = λ n. absurd (n empty);
      tag = start_tags c.args.dfa.now c.args.cache.now c.place_start.new.cache c.in-Ok.id
          (first_state c.args.dfa.now c.args.start c.args.name) c.in-Ok.ensures.own.shape.positive (placed g c);
      unknown = search rules;
      ok = search rules;
      err = search rules;
    }

pub returns-in-Ok-clause-changes : goal.returns-in-Ok-clause-changes
returns-in-Ok-clause-changes g c =
    let empty = unknown_start c.args.dfa.now c.args.cache.now c.args.mode (c.args.mode * 7 + c.as_usize.result) c.args.name
    c.start-known.result c.args.start c.requires.own
    (ap (λ (n : ℕ). c.args.mode * 7 + n) c.as_usize.ensures.number) c.requires.inside c.requires.named c.start-known.ensures
    (sym c.is_not_known.ensures ∙ c.if-not-is_not_known.false) in
    record {
      same = λ n. absurd (n empty);
      kept = start_kept c.args.dfa.now c.args.cache.now c.place_start.new.cache c.set_start.new.self
          (slot_of_start c.args.mode c.args.start) c.in-Ok.id (first_state c.args.dfa.now c.args.start c.args.name)
          c.is_made.ensures c.requires.own empty (placed g c) (noted_at g c);
      remains = start_remains c.args.dfa.now c.args.cache.now c.place_start.new.cache c.set_start.new.self
          (slot_of_start c.args.mode c.args.start) c.in-Ok.id (first_state c.args.dfa.now c.args.start c.args.name)
          c.is_made.ensures c.requires.own empty (placed g c) (noted_at g c);
      cause = ⊎_elim
          (λ (a : Added c.first_of.new.cache c.place_start.new.cache). inl (
          grew_start c.args.dfa.now c.args.cache.now c.place_start.new.cache c.set_start.new.self
          (slot_of_start c.args.mode c.args.start) c.in-Ok.id (first_state c.args.dfa.now c.args.start c.args.name)
          c.is_made.ensures c.requires.own empty (placed g c) (noted_at g c) (subst (λ (v : CacheValue). Added v c.place_start.new.cache) c.first_of.ensures.same a)
          ))
          (λ (n : needs_clear c.args.dfa.now c.first_of.new.cache c.in_ok-state.state ≡ true). inr (
            empty,
            subst (λ (s : StateValue). needs_clear c.args.dfa.now c.args.cache.now s ≡ true) c.in_ok-state.ensures.value
                (subst (λ (v : CacheValue). needs_clear c.args.dfa.now v c.in_ok-state.state ≡ true) c.first_of.ensures.same n),
          ))
          c.in-Ok.ensures.changes.cause;
      adds = inr (start_comes c.args.dfa.now c.args.cache.now c.first_of.new.cache c.place_start.new.cache
          c.set_start.new.self c.in_ok-state.state (first_state c.args.dfa.now c.args.start c.args.name) c.first_of.ensures.same
          c.in_ok-state.ensures.value (same_states _ c.set_start.new.self c.set_start.ensures)
          (grew_start c.args.dfa.now c.args.cache.now c.place_start.new.cache c.set_start.new.self
          (slot_of_start c.args.mode c.args.start) c.in-Ok.id (first_state c.args.dfa.now c.args.start c.args.name)
          c.is_made.ensures c.requires.own empty (placed g c) (noted_at g c))
          c.in-Ok.ensures.changes.adds);
      gave_up = search rules;
    }

pub returns-in-Ok-clause-made : goal.returns-in-Ok-clause-made
returns-in-Ok-clause-made g c =
    let empty = unknown_start c.args.dfa.now c.args.cache.now c.args.mode (c.args.mode * 7 + c.as_usize.result) c.args.name
    c.start-known.result c.args.start c.requires.own
    (ap (λ (n : ℕ). c.args.mode * 7 + n) c.as_usize.ensures.number) c.requires.inside c.requires.named c.start-known.ensures
    (sym c.is_not_known.ensures ∙ c.if-not-is_not_known.false) in
    record {
      free = λ n. absurd (n empty);
      determinized = search rules;
      inserted = search rules;
    }
