use Rattle.std.proofs.Common.{ap, rules}
use Rattle.lazy_dfa.specs.Caches.{CacheValue}
use Rattle.lazy_dfa.proofs.CacheChanges.CacheLemmas.{place_in_none}
use Rattle.lazy_dfa.proofs.steps.starting.room_alone.Goals as goal

pub returns-clause-room : goal.returns-clause-room
returns-clause-room c = record {
  fresh = place_in_none c.args.state.now c.clear.new.self.states (ap (λ (v : CacheValue). v.states) c.clear.ensures);
  fits = search rules;
}
