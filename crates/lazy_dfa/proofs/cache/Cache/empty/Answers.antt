use Rattle.std.proofs.Common.{ap, ℕ, ◌∙◌, replicate, arith}
use Rattle.lazy_dfa.proofs.CacheChanges.CacheLemmas.{IsKept-made}
use Rattle.lazy_dfa.proofs.cache.Cache.empty.Goals as goal

pub invariant_of-result : goal.invariant_of-result
invariant_of-result c = (
  IsKept-made c.args.stride c.args.fresh c.args.starts c.args.names _ _ _ _ _ _ c.new-4.result
      c.requires.positive c.requires.narrow c.new-2.ensures.items c.new-3.ensures.items c.in_ok-cells.ensures
      (c.in_ok-starts.ensures.items_if_clones_equal (λ y e. e) ∙ ap (λ (n : ℕ). replicate c.args.starts n) c.unknown.ensures)
      c.new-4.ensures.empty
      c.in_ok-workspace.ensures,
  λ low. absurd (omega (arith, low, c.new-5.ensures)),
)
