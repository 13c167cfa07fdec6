use Rattle.std.proofs.Common.{◌+◌, ◌-◌, ◌<◌, get_or, arith, subst, sym, ◌∙◌, Some, ℕ}
use Rattle.std.proofs.lemmas.Bool.Decides.{Decides-eqb}
use Rattle.lazy_dfa.specs.MatchLoops.{Lingers}
use Rattle.lazy_dfa.proofs.CacheChanges.ChangeLemmas.{noted_read}
use Rattle.lazy_dfa.proofs.CacheChanges.IsCacheLemmas.{row_place}
use Rattle.lazy_dfa.proofs.Courses.LingerLemmas.{lingers_none, lingers_on, row_next}
use Rattle.lazy_dfa.proofs.Courses.PointLemmas.{forward_unit, forward_place}
use Rattle.lazy_dfa.proofs.search.match_loop.linger_forward.Goals as goal

pub loop-at-init : goal.loop-at-init
loop-at-init c = record {
  row = c.requires.row;
  past = omega arith;
  within = c.requires.fits;
  lingers = lingers_none c.args.dfa.now c.args.haystack.now c.args.cache.now c.args.from c.args.id c.unknown.result c.args.from
      (c.args.from - c.args.from)
      c.requires.own c.requires.row c.unknown.ensures (omega arith);
}

pub cell-next-requires : goal.cell-next-requires
cell-next-requires c = row_place c.args.dfa.now c.args.cache.now c.loop-at.sid c.class.result
    (Some (get_or c.args.haystack.now c.loop-at.at 0)) c.is_made.ensures c.requires.own
    (omega (arith, c.type_inv.haystack c.loop-at.at)) c.class.ensures c.loop-at.invariant.row

pub loop-at-preserved-then-eq : goal.loop-at-preserved-then-eq
loop-at-preserved-then-eq c =
    let d = c.args.dfa.now in
    let v = c.args.cache.now in
    let h = c.args.haystack.now in
    let at = c.loop-at.at in
    let b = get_or h at 0 in
    let sid = c.loop-at.sid in
    let next = c.cell-next.result in
    let unit : b < 256 = omega (arith, c.type_inv.haystack at) in
    let below = c.is_of_row.ensures.0 c.if-not-is_of_row.false in
    let read = noted_read d v sid c.class.result next (Some b) c.is_made.ensures c.requires.own unit c.class.ensures c.cell-next.ensures in
    let on = lingers_on d v sid next (Some b) c.requires.own unit c.loop-at.invariant.row read below h c.is_made.ensures
    (λ i. omega (arith, c.type_inv.haystack i))
    c.args.from c.args.id at c.loop-at.met.id c.loop-at.met.last (at - c.args.from) c.requires.row c.loop-at.invariant.lingers
    (at + 1) (at + 1 - c.args.from) (forward_unit d h at c.requires.is_forward (omega (arith, c.loop-at-test.true, c.requires.within)))
    (forward_place d at c.requires.is_forward) (omega (arith, c.loop-at.invariant.past))
    c.meet-now.result.id c.meet-now.result.last c.meet-now.ensures.matching c.meet-now.ensures.plain in
    record {
      row = c.loop-at.invariant.row;
      past = omega (arith, c.loop-at.invariant.past, c.stay_forward-stayed.ensures.past, c.loop-at-test.true);
      within = c.stay_forward-stayed.ensures.within;
      lingers = c.stay_forward-stayed.ensures.lingers c.args.from c.args.id (omega (arith, c.loop-at.invariant.past, c.loop-at-test.true))
          c.requires.row
          (subst (λ (x : ℕ). Lingers d h v c.args.from c.args.id (at + 1) x c.meet-now.result.id c.meet-now.result.last
          (at + 1 - c.args.from))
          ((Decides-eqb next sid).0 (sym c.eq.ensures ∙ c.if-eq.true)) on);
    }

pub loop-at-preserved : goal.loop-at-preserved
loop-at-preserved c =
    let d = c.args.dfa.now in
    let v = c.args.cache.now in
    let h = c.args.haystack.now in
    let at = c.loop-at.at in
    let b = get_or h at 0 in
    let sid = c.loop-at.sid in
    let next = c.cell-next.result in
    let unit : b < 256 = omega (arith, c.type_inv.haystack at) in
    let below = c.is_of_row.ensures.0 c.if-not-is_of_row.false in
    let read = noted_read d v sid c.class.result next (Some b) c.is_made.ensures c.requires.own unit c.class.ensures c.cell-next.ensures in
    let on = lingers_on d v sid next (Some b) c.requires.own unit c.loop-at.invariant.row read below h c.is_made.ensures
    (λ i. omega (arith, c.type_inv.haystack i))
    c.args.from c.args.id at c.loop-at.met.id c.loop-at.met.last (at - c.args.from) c.requires.row c.loop-at.invariant.lingers
    (at + 1) (at + 1 - c.args.from) (forward_unit d h at c.requires.is_forward (omega (arith, c.loop-at-test.true, c.requires.within)))
    (forward_place d at c.requires.is_forward) (omega (arith, c.loop-at.invariant.past))
    c.meet-now.result.id c.meet-now.result.last c.meet-now.ensures.matching c.meet-now.ensures.plain in
    record {
      row = row_next d v sid next (Some b) c.requires.own unit c.loop-at.invariant.row read below;
      past = omega (arith, c.loop-at.invariant.past);
      within = omega (arith, c.loop-at-test.true);
      lingers = on;
    }
