use Rattle.std.proofs.Common.{◌-◌, ◌+◌, ℕ, get_or, refl, subst, arith}
use Rattle.lazy_dfa.specs.Points.{GoesTo, point}
use Rattle.lazy_dfa.proofs.Courses.PointLemmas.{runs_none}
use Rattle.lazy_dfa.proofs.PassedBytes.SkipLemmas.{skips_over, way_behind}
use Rattle.lazy_dfa.proofs.accel.accel_rounds.circle.Goals as goal

pub round-init : goal.round-init
round-init g c = record {
  past = omega arith;
  within = c.requires.fits;
  goes = runs_none c.args.dfa.now c.args.cache.now c.args.haystack.now c.args.from c.args.id
      (c.args.from - c.args.from) c.requires.own c.requires.row (omega arith);
}

pub returns-then-is_used_up : goal.returns-then-is_used_up
returns-then-is_used_up g c = skips_over c.args.dfa.now c.args.cache.now c.args.haystack.now c.is_made.ensures c.requires.own
    (λ i. omega (arith, c.type_inv.haystack i)) c.requires.is_forward
    c.args.id c.args.from c.round.at c.find_by-to.result c.args.end c.requires.row c.requires.untagged c.round.invariant
    c.find_by-to.ensures.low c.find_by-to.ensures.high c.requires.within
    (λ k low high. c.requires.stays (get_or c.args.haystack.now k 0) (omega (arith, c.type_inv.haystack k)) (
    c.find_by-to.ensures.passed k low high
    ))

pub round-preserved : goal.round-preserved
round-preserved g c =
    let over = skips_over c.args.dfa.now c.args.cache.now c.args.haystack.now c.is_made.ensures c.requires.own
    (λ i. omega (arith, c.type_inv.haystack i)) c.requires.is_forward
    c.args.id c.args.from c.round.at c.find_by-to.result c.args.end c.requires.row c.requires.untagged c.round.invariant
    c.find_by-to.ensures.low c.find_by-to.ensures.high c.requires.within
    (λ k low high. c.requires.stays (get_or c.args.haystack.now k 0) (omega (arith, c.type_inv.haystack k)) (
    c.find_by-to.ensures.passed k low high
    )) in
    record {
      past = omega (arith, over.past);
      within = c.if-not-comes_back.ensures.within refl;
      goes = way_behind c.args.dfa.now c.args.cache.now c.args.haystack.now c.is_made.ensures c.requires.own (λ i. omega (
        arith,
        c.type_inv.haystack i,
      )) c.requires.is_forward
          c.args.from c.args.id c.find_by-to.result c.args.id (c.find_by-to.result + 2) c.args.id c.requires.row c.requires.row over.past
          (omega arith) over.goes
          (λ m n best. subst (λ (k : ℕ). GoesTo c.args.dfa.now c.args.haystack.now
          (point c.args.cache.now m n c.find_by-to.result c.args.id best)
          (point c.args.cache.now m n (c.find_by-to.result + 2) c.args.id best) k) (omega arith)
          (c.if-not-comes_back.ensures.goes refl m n best));
    }
