use Rattle.std.proofs.Common.{◌≡◌, ◌∙◌, arith, length, sym}
use Rattle.pattern_fallback.proofs.NumberLemmas.{found_first, found_none, one_more_none}
use Rattle.pattern_fallback.proofs.numbers.number_at.Goals as goal

pub returns-then-starts : goal.returns-then-starts
returns-then-starts c res of some =
    found_first c.args.programs.now c.args.haystack.now c.args.start c.loop-number.number
    (omega (arith, c.loop-number-test.true))
    (record {
      default = _;
      boxed = c.index-programs-number.result;
      program = c.deref.result.now;
      listed = c.index-programs-number.is;
      inside = c.deref.ensures;
      told = λ a same. sym c.if-starts.true ∙ c.in_ok-starts.ensures a same;
    })
    c.loop-number.invariant res of

pub loop-number-preserved : goal.loop-number-preserved
loop-number-preserved c =
    one_more_none c.args.programs.now c.args.haystack.now c.args.start c.loop-number.number
    (omega (arith, c.loop-number-test.true))
    (record {
      default = _;
      boxed = c.index-programs-number.result;
      program = c.deref.result.now;
      listed = c.index-programs-number.is;
      inside = c.deref.ensures;
      told = λ a same. sym c.if-starts.false ∙ c.in_ok-starts.ensures a same;
    })
    c.loop-number.invariant

pub returns : goal.returns
returns c res of some =
    let all : c.loop-number.number ≡ length c.args.programs.now = omega (arith, c.loop-number-test.false) in
    sym all ∙ found_none c.args.programs.now c.args.haystack.now c.args.start c.loop-number.number all c.loop-number.invariant res of some
