use Rattle.std.proofs.Common.{◌≡◌, ◌-◌, ◌<◌, ◌≤◌, ⊎_elim, false, get_or, length, subst, arith}
use Rattle.std.proofs.lemmas.Bool.{cases_lt}
use Rattle.lazy_dfa.specs.ByteTests.{in_halves}
use Rattle.lazy_dfa.proofs.PassedBytes.PairLemmas.{way_before, way_past}
use Rattle.lazy_dfa.proofs.accel.accel_rounds.circle_by_pairs.Goals as goal

pub returns : goal.returns
returns g c =
    let d = c.args.dfa.now in
    let v = c.args.cache.now in
    let h = c.args.haystack.now in
    let p = g.T.ByteTest.passes c.args.test.now in
    let q = in_halves c.args.behind.now.low c.args.behind.now.high in
    let at = c.before_last-at.result in
    let to = c.find_pair-to.result in
    let inside : to ≤ length h = omega (arith, c.find_pair-to.ensures.high, c.requires.within) in
    record {
      past = c.before_last-at.ensures.past;
      within = omega (arith, c.before_last-at.ensures.most, c.find_pair-to.ensures.high);
      goes = ⊎_elim
          (λ (l : at < to). way_before d v h c.is_made.ensures c.requires.own (λ i. omega (arith, c.type_inv.haystack i)) c.requires.is_forward
          c.args.id c.requires.row c.requires.untagged p q c.requires.pairs c.args.from to inside c.find_pair-to.ensures.passed at
          c.before_last-at.ensures.past c.before_last-at.ensures.most l (c.before_last-at.ensures.passes l))
          (λ (m : to ≤ at).
          let same : at ≡ to = omega (arith, m, c.before_last-at.ensures.most) in
          way_past d v h c.is_made.ensures c.requires.own (λ i. omega (arith, c.type_inv.haystack i)) c.requires.is_forward
          c.args.id c.requires.row c.requires.untagged p q c.requires.pairs c.args.from to inside c.find_pair-to.ensures.passed at
          c.before_last-at.ensures.past c.before_last-at.ensures.most
          (λ (l : c.args.from < at). subst (λ j. p (get_or h (j - 1) 0) ≡ false) (omega (arith, same)) (
          c.before_last-at.ensures.fails same (omega (arith, l, same))
          )))
          (cases_lt at to);
    }
