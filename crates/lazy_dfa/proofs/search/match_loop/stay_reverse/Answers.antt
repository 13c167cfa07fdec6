use Rattle.std.proofs.Common.{◌-◌, ◌<◌, ℕ, get_or, arith, sym, subst, ◌∙◌, Some}
use Rattle.std.proofs.lemmas.Bool.Decides.{Decides-eqb}
use Rattle.lazy_dfa.specs.Ids.{start_tag}
use Rattle.lazy_dfa.proofs.CacheChanges.ChangeLemmas.{noted_read}
use Rattle.lazy_dfa.proofs.CacheChanges.IsCacheLemmas.{row_place}
use Rattle.lazy_dfa.proofs.Courses.LingerLemmas.{lingers_on}
use Rattle.lazy_dfa.proofs.Courses.PointLemmas.{reverse_unit, reverse_place}
use Rattle.lazy_dfa.proofs.search.match_loop.stay_reverse.Goals as goal

pub cell-next-requires : goal.cell-next-requires
cell-next-requires c = row_place c.args.dfa.now c.args.cache.now c.args.id c.class.result
    (Some (get_or c.args.haystack.now (c.loop-at.at - 1) 0)) c.is_made.ensures c.requires.own
    (omega (arith, c.type_inv.haystack (c.loop-at.at - 1))) c.class.ensures c.requires.row

pub loop-at-preserved : goal.loop-at-preserved
loop-at-preserved c =
    let d = c.args.dfa.now in
    let v = c.args.cache.now in
    let h = c.args.haystack.now in
    let at = c.loop-at.at in
    let b = get_or h (at - 1) 0 in
    let id = c.args.id in
    let next = c.cell-next.result in
    let unit : b < 256 = omega (arith, c.type_inv.haystack (at - 1)) in
    let same = (Decides-eqb next id).0 (sym c.eq-stays.ensures ∙ c.if-not-stays.false) in
    let below = subst (λ (n : ℕ). n < start_tag) same (c.is_of_row.ensures.0 c.if-not-is_of_row.false) in
    let read = sym same ∙ noted_read d v id c.class.result next (Some b) c.is_made.ensures c.requires.own unit c.class.ensures
    c.cell-next.ensures in
    record {
      past = omega (arith, c.loop-at.invariant.past, c.loop-at-test.true);
      within = omega (arith, c.loop-at-test.true);
      lingers = λ start first l row x. lingers_on d v id id (Some b) c.requires.own unit c.requires.row read below h c.is_made.ensures
          (λ i. omega (arith, c.type_inv.haystack i))
          start first at c.loop-at.now.id c.loop-at.now.last (start - at) row
          (c.loop-at.invariant.lingers start first l row x)
          (at - 1) (start - (at - 1)) (reverse_unit d h at c.requires.is_reverse (omega (arith, c.loop-at-test.true))
          (omega (arith, c.loop-at.invariant.past, c.requires.within)))
          (reverse_place d at c.requires.is_reverse) (omega (arith, l, c.loop-at.invariant.past, c.loop-at-test.true))
          c.meet-now.result.id c.meet-now.result.last c.meet-now.ensures.matching c.meet-now.ensures.plain;
    }
