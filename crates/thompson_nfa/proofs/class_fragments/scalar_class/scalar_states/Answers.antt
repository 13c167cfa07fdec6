use Rattle.thompson_nfa.proofs.Steps.ErrorLemmas.{handed}
use Rattle.thompson_nfa.proofs.Steps.PlainRoom.{plain_made, plain_quits}
use Rattle.std.proofs.Common.{arith}
use Rattle.thompson_nfa.proofs.Classes.ClassBytes.{plain_bytes, class_shrunk}
use Rattle.thompson_nfa.proofs.Classes.ScalarBytes.{shared_takes}
use Rattle.thompson_nfa.proofs.class_fragments.scalar_class.scalar_states.Goals as goal

pub returns-in_err-forward-clause-refused : goal.returns-in_err-forward-clause-refused
returns-in_err-forward-clause-refused c = handed _ _ c.in_err-forward.field-0.0 c.from_residual.ensures.1
    (plain_quits c.args.how.shrink _ _ c.args.ranges.now _ c.in_err-forward.ensures.refused)

pub returns-then-not-get_reverse-clause-made : goal.returns-then-not-get_reverse-clause-made
returns-then-not-get_reverse-clause-made c = plain_made c.args.how.shrink _ _ _ _ c.args.ranges.now c.in_ok-forward.ensures.made

pub returns-in_err-forward-clause-passed : goal.returns-in_err-forward-clause-passed
returns-in_err-forward-clause-passed c = handed _ _ c.in_err-forward.field-0.0 c.from_residual.ensures.1
    (omega (arith, plain_bytes c.args.how.shrink c.args.ranges.now, c.in_err-forward.ensures.passed))

pub returns-then-not-get_reverse-clause-weighs : goal.returns-then-not-get_reverse-clause-weighs
returns-then-not-get_reverse-clause-weighs c =
    shared_takes _ _ _ _ _ _ _ c.in_ok-forward.ensures.made c.in_ok-forward.ensures.weighs
    (omega (arith, plain_bytes c.args.how.shrink c.args.ranges.now))

pub returns-in_err-shrunk-clause-passed : goal.returns-in_err-shrunk-clause-passed
returns-in_err-shrunk-clause-passed c = handed _ _ c.in_err-shrunk.field-0.0 c.from_residual-in_err-shrunk.ensures.1
    (omega (arith, class_shrunk c.args.how.shrink c.args.ranges.now c.if-how.true, c.in_err-shrunk.ensures.passed))

pub returns-then-how-clause-weighs : goal.returns-then-how-clause-weighs
returns-then-how-clause-weighs c =
    shared_takes _ _ _ _ _ _ _ c.in_ok-shrunk.ensures.made c.in_ok-shrunk.ensures.weighs
    (omega (arith, class_shrunk c.args.how.shrink c.args.ranges.now c.if-how.true))

pub returns-in_err-reverse-clause-passed : goal.returns-in_err-reverse-clause-passed
returns-in_err-reverse-clause-passed c = handed _ _ c.in_err-reverse.field-0.0 c.from_residual-in_err-reverse.ensures.1
    (omega (arith, plain_bytes c.args.how.shrink c.args.ranges.now, c.in_err-reverse.ensures.passed))

pub returns-clause-weighs : goal.returns-clause-weighs
returns-clause-weighs c = shared_takes _ _ _ _ _ _ _ c.in_ok-reverse.ensures.made c.in_ok-reverse.ensures.weighs
    (omega (arith, plain_bytes c.args.how.shrink c.args.ranges.now))
