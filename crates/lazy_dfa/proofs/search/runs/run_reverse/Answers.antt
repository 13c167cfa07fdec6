use Rattle.std.proofs.Common.{◌∙◌, sym, ◌-◌, ◌<◌, get_or, arith, Some}
use Rattle.lazy_dfa.proofs.CacheChanges.ChangeLemmas.{plain_place, plain_noted}
use Rattle.lazy_dfa.proofs.CacheChanges.IsCacheLemmas.{lt_of}
use Rattle.lazy_dfa.proofs.Courses.PointLemmas.{runs_none, runs_on, next_row, reverse_unit, reverse_place}
use Rattle.lazy_dfa.proofs.search.runs.run_reverse.Goals as goal

pub loop-at-init : goal.loop-at-init
loop-at-init c = record {
  row = c.requires.row;
  untagged = c.requires.untagged;
  past = omega arith;
  within = c.requires.fits;
  goes = runs_none c.args.dfa.now c.args.cache.now c.args.haystack.now c.args.from c.args.id
      (c.args.from - c.args.from) c.requires.own c.requires.row (omega arith);
}

pub cell_of_untagged-next-requires : goal.cell_of_untagged-next-requires
cell_of_untagged-next-requires c = plain_place c.args.dfa.now c.args.cache.now c.loop-at.sid c.class.result
    (get_or c.args.haystack.now (c.loop-at.at - 1) 0) c.is_made.ensures c.requires.own
    (omega (arith, c.type_inv.haystack (c.loop-at.at - 1))) c.class.ensures c.loop-at.invariant.untagged c.loop-at.invariant.row

pub loop-at-preserved : goal.loop-at-preserved
loop-at-preserved c =
    let d = c.args.dfa.now in
    let v = c.args.cache.now in
    let h = c.args.haystack.now in
    let at = c.loop-at.at in
    let b = get_or h (at - 1) 0 in
    let sid = c.loop-at.sid in
    let next = c.cell_of_untagged-next.result in
    let unit : b < 256 = omega (arith, c.type_inv.haystack (at - 1)) in
    let plain = lt_of 0x800_0000 next (sym c.is_tagged.ensures ∙ c.if-is_tagged.false) in
    let read = plain_noted d v sid c.class.result b next c.class.ensures c.loop-at.invariant.untagged c.cell_of_untagged-next.ensures in
    record {
      row = next_row d v sid next (Some b) c.requires.own unit c.loop-at.invariant.row read plain;
      untagged = plain;
      past = omega (arith, c.loop-at.invariant.past);
      within = omega (arith, c.loop-at-test.true);
      goes = λ m n best. runs_on d v h c.is_made.ensures c.requires.own (λ i. omega (
        arith,
        c.type_inv.haystack i,
      )) c.args.from c.args.id at sid c.requires.row c.loop-at.invariant.row
          (c.args.from - at) m n best (c.loop-at.invariant.goes m n best) next (at - 1) (c.args.from - (at - 1)) (Some b) unit read plain
          (reverse_unit d h at c.requires.is_reverse (omega (arith, c.loop-at-test.true)) (omega (
            arith,
            c.loop-at.invariant.past,
            c.requires.within,
          ))) (reverse_place d at c.requires.is_reverse)
          (omega (arith, c.loop-at.invariant.past, c.loop-at-test.true));
    }
