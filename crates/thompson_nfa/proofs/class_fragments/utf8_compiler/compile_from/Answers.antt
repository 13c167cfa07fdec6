use Rattle.std.proofs.Common.{refl, ◌∙◌, arith}
use Rattle.thompson_nfa.proofs.Steps.ErrorLemmas.{handed}
use Rattle.thompson_nfa.proofs.Classes.StackLemmas.{none_popped, one_popped, pops_refused}
use Rattle.thompson_nfa.proofs.Classes.SequenceBytes.{pops_weigh}
use Rattle.thompson_nfa.proofs.class_fragments.utf8_compiler.compile_from.Goals as goal

pub loop-count-init : goal.loop-count-init
loop-count-init c = (none_popped _ _ _ c.args.from _ c.requires.rising c.requires.keeps, refl)

pub returns-in_err-next-clause-refused : goal.returns-in_err-next-clause-refused
returns-in_err-next-clause-refused c = handed _ _ c.in_err-next.field-0.0 c.from_residual.ensures.1
    (pops_refused _ _ _ _ _ _ _ _ _ _ _ c.loop-count.invariant.0 c.in_err-next.ensures.refused)

pub loop-count-preserved : goal.loop-count-preserved
loop-count-preserved c =
    let i = c.loop-count.invariant in (
      one_popped _ _ _ _ _ _ _ _ _ _ _ _ _ _ i.1 i.0 c.in_ok-next.ensures.top c.in_ok-next.ensures.rising c.in_ok-next.ensures.keeps,
      c.compile_top.ensures.end ∙ i.1,
    )

pub returns-in_err-next-clause-passed : goal.returns-in_err-next-clause-passed
returns-in_err-next-clause-passed c = handed _ _ c.in_err-next.field-0.0 c.from_residual.ensures.1
    (omega (arith, pops_weigh _ _ _ _ _ _ c.loop-count.invariant.0.pops, c.in_err-next.ensures.passed))
