use Rattle.std.proofs.Common.{ap}
use Rattle.lazy_dfa.specs.Caches.{CacheValue}
use Rattle.lazy_dfa.proofs.CacheChanges.CacheLemmas.{place_in_none}
use Rattle.lazy_dfa.proofs.cache.Cache.clear_keeping.Goals as goal

pub add_state-requires-clause-fresh : goal.add_state-requires-clause-fresh
add_state-requires-clause-fresh c = place_in_none c.in_ok-state.state c.clear.new.self.states
    (ap (λ (v : CacheValue). v.states) c.clear.ensures)
