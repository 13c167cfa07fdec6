use Rattle.std.proofs.Common.{◌≡◌, ◌∙◌, sym, subst, ap, true, false, ℕ, refl, inl, inr, ⊎_elim, Some, rules}
use Rattle.lazy_dfa.specs.Ids.{dead_id}
use Rattle.lazy_dfa.specs.Caches.{CacheValue, IsCacheOf, HeldAt, Names, names_dead, names_held, state_at, with_state, needs_clear}
use Rattle.lazy_dfa.proofs.CacheChanges.IsCacheLemmas.{is_cache_added, alive_of, held_added, new_held}
use Rattle.lazy_dfa.proofs.CacheChanges.StartChangeLemmas.{made_tag}
use Rattle.lazy_dfa.proofs.HalfSearches.TurnLemmas.{dead_is}
use Rattle.lazy_dfa.proofs.CacheChanges.ChangeLemmas.{adds_after, adds_nothing, made_after, added_none, added_one}
use Rattle.lazy_dfa.proofs.CacheChanges.AddsLemmas.{comes_alone, comes_with}
use Rattle.lazy_dfa.proofs.steps.stepping.place.Goals as goal

-- ---- the IDs

pub returns-then-is_dead_state-clause-rows : goal.returns-then-is_dead_state-clause-rows
returns-then-is_dead_state-clause-rows c = record {
  from = search rules;
  to = names_dead (c.dead.ensures ∙ ap dead_id c.stride-stride.ensures.stride)
      (dead_is c.args.state (sym c.is_dead_state.ensures ∙ c.if-is_dead_state.true));
  tag = search rules;
}

pub returns-in-Some-clause-rows : goal.returns-in-Some-clause-rows
returns-in-Some-clause-rows c = record {
  from = search rules;
  to = subst (λ (n : ℕ). Names c.args.cache.now n c.args.state) (sym c.id-to.ensures) (names_held c.in-Some.ensures.held);
  tag = search rules;
}

pub returns-clause-rows : goal.returns-clause-rows
returns-clause-rows c = record {
  from = subst (λ (w : CacheValue). HeldAt w c.in_ok-from.from (state_at c.args.cache.now c.args.k))
      (sym c.in_ok-to.ensures.ok)
      (held_added c.make_room.new.cache false c.args.state c.in_ok-from.from
      (state_at c.args.cache.now c.args.k) c.in_ok-from.ensures.own.shape c.in_ok-from.ensures.from);
  to = subst (λ (w : CacheValue). Names w c.in_ok-to.to c.args.state) (sym c.in_ok-to.ensures.ok)
      (subst (λ (n : ℕ). Names (with_state false c.args.state c.make_room.new.cache) n c.args.state) (sym c.in_ok-to.ensures.id)
      (names_held (new_held c.make_room.new.cache false c.args.state c.in_ok-from.ensures.own.shape)));
  tag = λ alive fresh. made_tag c.make_room.new.cache c.args.state c.in_ok-to.to c.in_ok-from.ensures.own.shape.positive
      c.in_ok-from.ensures.room.fits.1 c.in_ok-to.ensures.id;
}

-- ---- the cache

pub returns-clause-own : goal.returns-clause-own
returns-clause-own c = subst (IsCacheOf c.args.dfa.now) (sym c.in_ok-to.ensures.ok)
    (is_cache_added c.args.dfa.now c.make_room.new.cache false c.args.state c.is_made.ensures c.in_ok-from.ensures.own c.find.ensures.real
    c.in_ok-from.ensures.room.fresh c.in_ok-from.ensures.room.fits
    (alive_of c.args.state (sym c.is_dead_state.ensures ∙ c.if-is_dead_state.false)) c.requires.is)

pub returns-in_err-from-clause-changes : goal.returns-in_err-from-clause-changes
returns-in_err-from-clause-changes c = record {
  kept = search rules;
  made = search rules;
  cause = ⊎_elim
      (λ (f : c.make_room.new.cache ≡ c.args.cache.now). inl (added_none c.args.cache.now c.make_room.new.cache c.requires.own.shape f))
      (λ (n : needs_clear c.args.dfa.now c.args.cache.now c.args.state ≡ true). inr n)
      c.in_err-from.ensures.changes.cause;
  adds = comes_alone c.args.dfa.now false (Some c.args.k) c.args.state c.args.cache.now
      c.make_room.new.cache c.make_room.new.cache c.requires.own.shape c.in_err-from.ensures.changes.clears refl;
  gave_up = search rules;
}

pub returns-in_err-to-clause-changes : goal.returns-in_err-to-clause-changes
returns-in_err-to-clause-changes c = record {
  kept = adds_nothing c.args.cache.now c.make_room.new.cache c.add_state.new.self c.requires.own.shape
      c.in_ok-from.ensures.changes.room c.in_err-to.ensures.err;
  made = search rules;
  cause = ⊎_elim
      (λ (f : c.make_room.new.cache ≡ c.args.cache.now). inl (added_none c.args.cache.now c.add_state.new.self c.requires.own.shape
      (c.in_err-to.ensures.err ∙ f)))
      (λ (n : needs_clear c.args.dfa.now c.args.cache.now c.args.state ≡ true). inr n)
      c.in_ok-from.ensures.changes.cause;
  adds = comes_alone c.args.dfa.now false (Some c.args.k) c.args.state c.args.cache.now
      c.make_room.new.cache c.add_state.new.self c.requires.own.shape c.in_ok-from.ensures.changes.clears c.in_err-to.ensures.err;
  gave_up = search rules;
}

pub returns-clause-changes : goal.returns-clause-changes
returns-clause-changes c = record {
  kept = adds_after c.args.cache.now c.make_room.new.cache c.add_state.new.self false c.args.state c.requires.own.shape
      c.in_ok-from.ensures.changes.room c.in_ok-to.ensures.ok;
  made = made_after c.args.cache.now c.make_room.new.cache c.add_state.new.self c.args.k c.args.state c.requires.own.shape
      c.in_ok-from.ensures.changes.made c.in_ok-to.ensures.ok;
  cause = ⊎_elim
      (λ (f : c.make_room.new.cache ≡ c.args.cache.now). inl (added_one c.args.cache.now c.make_room.new.cache c.add_state.new.self false
      c.args.state c.requires.own.shape f c.in_ok-to.ensures.ok))
      (λ (n : needs_clear c.args.dfa.now c.args.cache.now c.args.state ≡ true). inr n)
      c.in_ok-from.ensures.changes.cause;
  adds = comes_with c.args.dfa.now false (Some c.args.k) c.args.state c.args.cache.now
      c.make_room.new.cache c.add_state.new.self c.requires.own.shape c.in_ok-from.ensures.changes.clears c.requires.is
      (sym c.is_dead_state.ensures ∙ c.if-is_dead_state.false) (sym c.find.ensures.place ∙ c.in_default.is)
      c.in_ok-from.ensures.room.fits c.in_ok-to.ensures.ok;
  gave_up = search rules;
}
