use Rattle.std.proofs.Common.{◌≡◌, sym, subst, None, ℕ}
use Rattle.lazy_dfa.specs.Ids.{has_tag, start_tag}
use Rattle.lazy_dfa.specs.Caches.{CacheValue, IsCacheOf, Fits, HeldAt, id_at, state_at, row_holding, with_state, cleared}
use Rattle.lazy_dfa.proofs.CacheChanges.IsCacheLemmas.{is_cache_kept, is_cache_refused, fits_beside, fresh_beside, kept_held}
use Rattle.lazy_dfa.proofs.steps.stepping.make_room.Goals as goal

pub returns-in_err-id-clause-own : goal.returns-in_err-id-clause-own
returns-in_err-id-clause-own c = is_cache_refused c.args.dfa.now c.args.cache.now c.args.k c.is_made.ensures c.requires.own c.requires.row
    c.clear_keeping.new.self c.in_err-id.ensures.err

pub returns-clause-own : goal.returns-clause-own
returns-clause-own c = subst (IsCacheOf c.args.dfa.now) (sym c.in_ok-id.ensures.ok)
    (is_cache_kept c.args.dfa.now c.args.cache.now c.args.k c.is_made.ensures c.requires.own c.requires.row
    (has_tag start_tag (id_at c.args.cache.now c.args.k)))

pub returns-clause-from : goal.returns-clause-from
returns-clause-from c = subst (λ (w : CacheValue). HeldAt w c.in_ok-id.id (state_at c.args.cache.now c.args.k)) (sym c.in_ok-id.ensures.ok)
    (subst (λ (n : ℕ). HeldAt (with_state (has_tag start_tag (id_at c.args.cache.now c.args.k)) (state_at c.args.cache.now c.args.k)
    (cleared c.args.cache.now)) n (state_at c.args.cache.now c.args.k)) (sym c.in_ok-id.ensures.id)
    (kept_held c.args.dfa.now c.args.cache.now c.args.k c.is_made.ensures c.requires.own c.requires.row
    (has_tag start_tag (id_at c.args.cache.now c.args.k))))

pub returns-clause-room : goal.returns-clause-room
returns-clause-room c = record {
  fresh = subst (λ (w : CacheValue). row_holding c.args.state.now w.states ≡ None) (sym c.in_ok-id.ensures.ok)
      (fresh_beside c.args.dfa.now c.args.cache.now c.args.k c.is_made.ensures c.requires.own c.requires.row
      (has_tag start_tag (id_at c.args.cache.now c.args.k)) c.args.state.now c.requires.fresh);
  fits = subst (Fits c.args.dfa.now.capacity c.args.state.now) (sym c.in_ok-id.ensures.ok)
      (fits_beside c.args.dfa.now c.args.cache.now c.args.k c.is_made.ensures c.requires.own c.requires.row
      (has_tag start_tag (id_at c.args.cache.now c.args.k)) c.args.state.now c.requires.is);
}
