use Rattle.std.proofs.Common.{arith}
use Rattle.thompson_nfa.proofs.Steps.ErrorLemmas.{handed}
use Rattle.thompson_nfa.proofs.Classes.ClassBytes.{sequences_left}
use Rattle.thompson_nfa.proofs.Classes.FollowLemmas.{no_range, range_follows, next_range, range_refused, all_compiled, class_made}
use Rattle.thompson_nfa.proofs.Classes.FollowLemmas.{class_does, class_refused}
use Rattle.thompson_nfa.proofs.class_fragments.scalar_forward.compile_scalars_forward.Goals as goal

pub loop-range-init : goal.loop-range-init
loop-range-init c = (
  no_range _ _ _ _ _ c.args.ranges.now c.requires.ascending c.in_ok-begin.ensures.begun,
  omega (
    arith,
    c.in_ok-begin.ensures.weighs,
  ),
)

pub add_sequences-requires-clause-order : goal.add_sequences-requires-clause-order
add_sequences-requires-clause-order c = range_follows _ _ _ _ _ c.loop-range.range-index c.args.ranges.now (
  0,
  0,
) c.loop-range.invariant.0 c.loop-range-test.true

pub returns-in_err-add_sequences-clause-refused : goal.returns-in_err-add_sequences-clause-refused
returns-in_err-add_sequences-clause-refused c = handed _ _ c.in_err-add_sequences.field-0.0 c.from_residual-in_err-add_sequences.ensures.1
    (range_refused _ _ _ _ _ c.loop-range.range-index c.args.ranges.now (
      0,
      0,
    ) c.loop-range.invariant.0 c.loop-range-test.true _ _ c.in_err-add_sequences.ensures.refused)

pub returns-in_err-add_sequences-clause-passed : goal.returns-in_err-add_sequences-clause-passed
returns-in_err-add_sequences-clause-passed c = handed _ _ c.in_err-add_sequences.field-0.0 c.from_residual-in_err-add_sequences.ensures.1
    (omega (
      arith,
      c.loop-range.invariant.1,
      sequences_left c.loop-range.range-index c.args.ranges.now (0, 0) c.loop-range-test.true,
      c.in_err-add_sequences.ensures.passed,
    ))

pub returns-in_err-whole-clause-passed : goal.returns-in_err-whole-clause-passed
returns-in_err-whole-clause-passed c = handed _ _ c.in_err-whole.field-0.0 c.from_residual-in_err-whole.ensures.1
    (omega (arith, c.loop-range.invariant.1, c.in_err-whole.ensures.passed))

pub returns-clause-weighs : goal.returns-clause-weighs
returns-clause-weighs c = omega (arith, c.loop-range.invariant.1, c.in_ok-whole.ensures.weighs)

pub loop-range-preserved : goal.loop-range-preserved
loop-range-preserved c = (
  next_range _ _ _ _ _ c.loop-range.range-index c.args.ranges.now (
    0,
    0,
  ) c.loop-range.invariant.0 c.loop-range-test.true _ _ _ _ c.in_ok-add_sequences.ensures.added,
  omega (
    arith,
    c.loop-range.invariant.1,
    sequences_left c.loop-range.range-index c.args.ranges.now (0, 0) c.loop-range-test.true,
    c.in_ok-add_sequences.ensures.weighs,
  ),
)

pub returns-in_err-whole-clause-refused : goal.returns-in_err-whole-clause-refused
returns-in_err-whole-clause-refused c =
    let whole = all_compiled _ _ _ _ _ c.loop-range.range-index c.args.ranges.now c.loop-range.invariant.0 c.loop-range-test.false in
    handed _ _ c.in_err-whole.field-0.0 c.from_residual-in_err-whole.ensures.1
    (class_refused _ _ c.args.ranges.now _ (c.in_err-whole.ensures.refused _ _ whole))

pub returns-clause-made : goal.returns-clause-made
returns-clause-made c =
    let whole = all_compiled _ _ _ _ _ c.loop-range.range-index c.args.ranges.now c.loop-range.invariant.0 c.loop-range-test.false in
    class_made _ _ c.args.ranges.now _ _ (c.in_ok-whole.ensures.closed _ _ whole).0

pub returns-clause-does : goal.returns-clause-does
returns-clause-does c =
    let whole = all_compiled _ _ _ _ _ c.loop-range.range-index c.args.ranges.now c.loop-range.invariant.0 c.loop-range-test.false in
    class_does _ _ c.args.ranges.now _ _ c.requires.ascending c.requires.forward (c.in_ok-whole.ensures.closed _ _ whole).1

pub returns-clause-groups : goal.returns-clause-groups
returns-clause-groups c =
    let whole = all_compiled _ _ _ _ _ c.loop-range.range-index c.args.ranges.now c.loop-range.invariant.0 c.loop-range-test.false in
    (c.in_ok-whole.ensures.closed _ _ whole).2
