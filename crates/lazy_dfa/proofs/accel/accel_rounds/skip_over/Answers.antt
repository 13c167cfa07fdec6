use Rattle.std.proofs.Common.{◌≡◌, ◌-◌, ◌∙◌, ℕ, subst, arith}
use Rattle.lazy_dfa.specs.Caches.{CacheValue}
use Rattle.lazy_dfa.specs.Points.{GoesTo, point}
use Rattle.lazy_dfa.specs.Stretches.{SkipsTo}
use Rattle.lazy_dfa.proofs.Courses.PointLemmas.{runs_none}
use Rattle.lazy_dfa.proofs.accel.accel_rounds.skip_over.Goals.{then-ne, else-ne}
use Rattle.lazy_dfa.proofs.accel.accel_rounds.skip_over.Goals as goal

pub returns-then-from-end-clause-skips : goal.returns-then-from-end-clause-skips
returns-then-from-end-clause-skips c = record {
  past = c.requires.fits;
  within = omega arith;
  goes = λ m n best.
      subst (λ (j : ℕ). GoesTo c.args.dfa.now c.args.haystack.now (point c.args.cache.now m n c.args.from c.args.id best)
      (point c.args.cache.now m n j c.args.id best) (c.args.end - c.args.from)) (omega (arith, c.if-from-end.true))
      (runs_none c.args.dfa.now c.args.cache.now c.args.haystack.now c.args.from c.args.id
      (c.args.end - c.args.from) c.requires.own c.requires.row (omega (arith, c.if-from-end.true)) m n best);
}

pub returns-then-ne-2-clause-skips : goal.returns-then-ne-2-clause-skips
returns-then-ne-2-clause-skips c = record {
  past = omega arith;
  within = c.requires.fits;
  goes = runs_none c.args.dfa.now c.args.cache.now c.args.haystack.now c.args.from c.args.id
      (c.args.from - c.args.from) c.requires.own c.requires.row (omega arith);
}

same : (c : goal.After-pay) → c.if-ne.cache ≡ c.args.cache.now
same c = elim c.if-ne.branch [
  | then-ne w ↦ w.cache-is ∙ w.look.ensures
  | else-ne w ↦ w.cache-is
]

pub returns-clause-skips : goal.returns-clause-skips
returns-clause-skips c = subst (λ (v : CacheValue). SkipsTo c.args.dfa.now v c.args.haystack.now c.args.id c.args.from c.args.end
    c.circle_by-circled.result.at) (same c) c.circle_by-circled.ensures
