use Rattle.std.proofs.Common.{◌∙◌, sym, arith}
use Rattle.thompson_nfa.specs.ByteRoom.{at_most}
use Rattle.thompson_nfa.proofs.Steps.ErrorLemmas.{handed}
use Rattle.thompson_nfa.proofs.Steps.PlainRoom.{plain_made, plain_quits}
use Rattle.thompson_nfa.proofs.Classes.ScalarBytes.{ascii_bytes, other_bytes, ascii_takes, other_takes}
use Rattle.thompson_nfa.proofs.class_fragments.scalar_class.compile_scalars.Goals as goal

pub returns-in_err-ascii-clause-refused : goal.returns-in_err-ascii-clause-refused
returns-in_err-ascii-clause-refused c = handed _ _ c.in_err-ascii.field-0.0 c.from_residual.ensures.1
    (plain_quits c.args.how.shrink _ _ c.args.ranges.now _ c.in_err-ascii.ensures.refused)

pub returns-in_err-ascii-clause-passed : goal.returns-in_err-ascii-clause-passed
returns-in_err-ascii-clause-passed c = handed _ _ c.in_err-ascii.field-0.0 c.from_residual.ensures.1
    (omega (
      arith,
      ascii_bytes (at_most c.args.how.shrink) c.args.ranges.now (sym c.is_ascii.ensures ∙ c.if-is_ascii.true),
      c.in_err-ascii.ensures.passed,
    ))

pub returns-then-is_ascii-clause-made : goal.returns-then-is_ascii-clause-made
returns-then-is_ascii-clause-made c = plain_made c.args.how.shrink _ _ _ _ c.args.ranges.now c.in_ok-ascii.ensures.made

pub returns-then-is_ascii-clause-weighs : goal.returns-then-is_ascii-clause-weighs
returns-then-is_ascii-clause-weighs c = ascii_takes _ _ _ c.args.ranges.now c.args.how.shrink
    (sym c.is_ascii.ensures ∙ c.if-is_ascii.true) c.in_ok-ascii.ensures.weighs

pub returns-clause-weighs : goal.returns-clause-weighs
returns-clause-weighs c = other_takes _ _ _ c.args.ranges.now c.args.how.shrink (sym c.is_ascii.ensures ∙ c.if-is_ascii.false)
    c.in_ok-class.ensures.weighs

pub returns-in_err-class-clause-passed : goal.returns-in_err-class-clause-passed
returns-in_err-class-clause-passed c = handed _ _ c.in_err-class.field-0.0 c.from_residual-in_err-class.ensures.1
    (omega (
      arith,
      other_bytes (at_most c.args.how.shrink) c.args.ranges.now (sym c.is_ascii.ensures ∙ c.if-is_ascii.false),
      c.in_err-class.ensures.passed,
    ))
