use Rattle.std.proofs.Common.{arith}
use Rattle.thompson_nfa.proofs.Steps.ErrorLemmas.{handed}
use Rattle.thompson_nfa.proofs.Classes.ClassBytes.{sequences_left, sequences_weigh}
use Rattle.thompson_nfa.proofs.Classes.ScalarLemmas.{range_refused, ranges_made, ranges_do}
use Rattle.thompson_nfa.proofs.Classes.SuffixRanges.{reverse_begun, reverse_next}
use Rattle.thompson_nfa.proofs.class_fragments.scalar_reverse.compile_scalars_reverse.Goals as goal

pub loop-range-init : goal.loop-range-init
loop-range-init c = (
  reverse_begun _ _ _ _ _ _ _ c.args.ranges.now c.in_ok-clear.ensures.ok c.in_ok-choice.ensures c.in_ok-end.ensures,
  omega (arith, c.in_ok-choice.ensures.bytes, c.in_ok-end.ensures.bytes),
)

pub returns-in_err-add_sequences_reverse-clause-refused : goal.returns-in_err-add_sequences_reverse-clause-refused
returns-in_err-add_sequences_reverse-clause-refused c = handed _ _ c.in_err-add_sequences_reverse.field-0.0
    c.from_residual-in_err-add_sequences_reverse.ensures.1
    (range_refused _ _ _ _ c.loop-range.range-index c.args.ranges.now (
      0,
      0,
    ) c.loop-range.invariant.0.met c.loop-range-test.true _ _ c.in_err-add_sequences_reverse.ensures.refused)

pub loop-range-preserved : goal.loop-range-preserved
loop-range-preserved c = (
  reverse_next _ _ _ _ _ _ c.loop-range.range-index c.args.ranges.now c.loop-range.invariant.0 (
    0,
    0,
  ) c.loop-range-test.true c.requires.reverse _ _ c.in_ok-add_sequences_reverse.ensures.added,
  omega (
    arith,
    c.loop-range.invariant.1,
    sequences_left c.loop-range.range-index c.args.ranges.now (0, 0) c.loop-range-test.true,
    sequences_weigh c.in_ok-add_sequences_reverse.ensures.added,
  ),
)

pub returns-in_err-add_sequences_reverse-clause-passed : goal.returns-in_err-add_sequences_reverse-clause-passed
returns-in_err-add_sequences_reverse-clause-passed c = handed _ _ c.in_err-add_sequences_reverse.field-0.0
    c.from_residual-in_err-add_sequences_reverse.ensures.1
    (omega (
      arith,
      c.loop-range.invariant.1,
      sequences_left c.loop-range.range-index c.args.ranges.now (0, 0) c.loop-range-test.true,
      c.in_err-add_sequences_reverse.ensures.passed,
    ))

pub returns-clause-made : goal.returns-clause-made
returns-clause-made c = ranges_made _ _ _ _ c.loop-range.range-index c.args.ranges.now c.loop-range.invariant.0.met c.loop-range-test.false

pub returns-clause-does : goal.returns-clause-does
returns-clause-does c = ranges_do _ _ _ _ c.loop-range.range-index c.args.ranges.now c.loop-range.invariant.0.met c.loop-range-test.false
    c.requires.ascending
