use Rattle.std.proofs.Common.{arith}
use Rattle.lazy_dfa.proofs.CacheChanges.CacheLemmas.{IsKept-cleared}
use Rattle.lazy_dfa.proofs.cache.Cache.clear.Goals as goal

pub invariant_of-self : goal.invariant_of-self
invariant_of-self c = (
  rw (c.clear-2.ensures.items, c.clear-3.ensures.items, c.truncate.ensures.items)
      (IsKept-cleared _ _ c.clear.new.self _ c.saturating_add-self-inside.result c.fill.new.self.items c.begun_anew-self-inside.result
      c.self.invariant.0 c.clear.ensures.empty),
  λ low. absurd (omega (arith, low, c.new-self-inside.ensures)),
)
