use Rattle.std.proofs.Common.{◌≡◌, ◌∙◌, sym, subst, ap, ℕ, Bool, true, inl, inr, ⊎_elim, None, rules}
use Rattle.lazy_dfa.specs.Ids.{dead_id}
use Rattle.lazy_dfa.specs.Caches.{CacheValue, IsCacheOf, Names, names_dead, names_held, with_state, new_id, needs_clear}
use Rattle.lazy_dfa.specs.ConfigValue.{specializes}
use Rattle.lazy_dfa.specs.StartCalls.{start_added}
use Rattle.lazy_dfa.proofs.CacheChanges.IsCacheLemmas.{is_cache_added, alive_of, new_held}
use Rattle.lazy_dfa.proofs.HalfSearches.TurnLemmas.{dead_is}
use Rattle.lazy_dfa.proofs.CacheChanges.ChangeLemmas.{added_none, added_one}
use Rattle.lazy_dfa.proofs.CacheChanges.AddsLemmas.{comes_alone, comes_with}
use Rattle.lazy_dfa.proofs.steps.starting.place_start.Goals as goal

-- ---- the ID

pub returns-then-is_dead_state-clause-start : goal.returns-then-is_dead_state-clause-start
returns-then-is_dead_state-clause-start c = record {
  to = names_dead (c.dead.ensures ∙ ap dead_id c.stride-stride.ensures.stride)
      (dead_is c.args.state (sym c.is_dead_state.ensures ∙ c.if-is_dead_state.true));
  made = search rules;
}

pub returns-in-Some-clause-start : goal.returns-in-Some-clause-start
returns-in-Some-clause-start c = record {
  to = subst (λ (n : ℕ). Names c.args.cache.now n c.args.state) (sym c.id-id.ensures) (names_held c.in-Some.ensures.held);
  made = search rules;
}

pub returns-clause-start : goal.returns-clause-start
returns-clause-start c = record {
  to = subst (λ (w : CacheValue). Names w c.in_ok-id.id c.args.state) (sym c.in_ok-id.ensures.ok)
      (subst (λ (n : ℕ). Names (with_state c.specializes.result c.args.state c.room_alone.new.cache) n c.args.state)
      (sym c.in_ok-id.ensures.id)
      (names_held (new_held c.room_alone.new.cache c.specializes.result c.args.state c.in_ok-room_alone.ensures.own.shape)));
  made = start_added c.room_alone.new.cache c.in_ok-room_alone.ensures.changes.room c.in_ok-room_alone.ensures.room.fits.1
      (c.in_ok-id.ensures.ok ∙ ap (λ (b : Bool). with_state b c.args.state c.room_alone.new.cache) c.specializes.ensures)
      (c.in_ok-id.ensures.id ∙ ap (λ (b : Bool). new_id c.room_alone.new.cache b c.args.state) c.specializes.ensures);
}

-- ---- the cache

pub returns-clause-own : goal.returns-clause-own
returns-clause-own c = subst (IsCacheOf c.args.dfa.now) (sym c.in_ok-id.ensures.ok)
    (is_cache_added c.args.dfa.now c.room_alone.new.cache c.specializes.result c.args.state c.is_made.ensures c.in_ok-room_alone.ensures.own
    c.find.ensures.real c.in_ok-room_alone.ensures.room.fresh c.in_ok-room_alone.ensures.room.fits
    (alive_of c.args.state (sym c.is_dead_state.ensures ∙ c.if-is_dead_state.false)) c.requires.is)

pub returns-in_err-id-clause-changes : goal.returns-in_err-id-clause-changes
returns-in_err-id-clause-changes c = record {
  slots = search rules;
  unmade = search rules;
  cause = ⊎_elim
      (λ (f : c.room_alone.new.cache ≡ c.args.cache.now). inl (added_none c.args.cache.now c.add_state.new.self c.requires.own.shape
      (c.in_err-id.ensures.err ∙ f)))
      (λ (n : needs_clear c.args.dfa.now c.args.cache.now c.args.state ≡ true). inr n)
      c.in_ok-room_alone.ensures.changes.cause;
  adds = comes_alone c.args.dfa.now (specializes c.args.dfa.now.options) None c.args.state c.args.cache.now
      c.room_alone.new.cache c.add_state.new.self c.requires.own.shape c.in_ok-room_alone.ensures.changes.clears c.in_err-id.ensures.err;
  gave_up = search rules;
}

pub returns-clause-changes : goal.returns-clause-changes
returns-clause-changes c = record {
  slots = search rules;
  unmade = search rules;
  cause = ⊎_elim
      (λ (f : c.room_alone.new.cache ≡ c.args.cache.now). inl (added_one c.args.cache.now c.room_alone.new.cache c.add_state.new.self
      c.specializes.result c.args.state c.requires.own.shape f c.in_ok-id.ensures.ok))
      (λ (n : needs_clear c.args.dfa.now c.args.cache.now c.args.state ≡ true). inr n)
      c.in_ok-room_alone.ensures.changes.cause;
  adds = comes_with c.args.dfa.now (specializes c.args.dfa.now.options) None c.args.state c.args.cache.now
      c.room_alone.new.cache c.add_state.new.self c.requires.own.shape c.in_ok-room_alone.ensures.changes.clears c.requires.is
      (sym c.is_dead_state.ensures ∙ c.if-is_dead_state.false) (sym c.find.ensures.place ∙ c.in_default.is)
      c.in_ok-room_alone.ensures.room.fits
      (c.in_ok-id.ensures.ok ∙ ap (λ (b : Bool). with_state b c.args.state c.room_alone.new.cache) c.specializes.ensures);
  gave_up = search rules;
}
