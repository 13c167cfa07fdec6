use Rattle.std.proofs.Common.{◌≡◌, ◌-◌, arith, subst, sym, drop, true}
use Rattle.hir_core.specs.Means.{is_member}
use Rattle.literal_search.proofs.ClassLemmas.{ranges_more}
use Rattle.literal_search.proofs.classes.char_literals.Goals as goal

pub loop-n-preserved : goal.loop-n-preserved
loop-n-preserved c = (
  omega (arith, c.loop-n.invariant.0),
  ranges_more c.args.ranges.now (0, 0) c.loop-n.literals c.append_chars.new.literals (c.loop-n.n - 1) c.loop-n.n
      (omega (arith, c.loop-n-test.true)) (omega (arith, c.loop-n-test.true, c.loop-n.invariant.0))
      c.loop-n.invariant.1 c.in_ok-append_chars.ensures.keeps c.in_ok-append_chars.ensures.added,
)

pub returns : goal.returns
returns c = λ k s member spells.
    let zero_left : c.loop-n.n ≡ 0 = omega (arith, c.loop-n-test.false) in
    c.loop-n.invariant.1 k s (subst (λ n. is_member (drop n c.args.ranges.now) k ≡ true) (sym zero_left) member) spells
