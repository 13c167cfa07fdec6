use Rattle.thompson_nfa.proofs.Steps.ErrorLemmas.{handed}
use Rattle.thompson_nfa.proofs.Classes.SequenceBytes.{top_passed}
use Rattle.thompson_nfa.proofs.class_fragments.utf8_compiler.compile_top.Goals as goal

pub returns-in_err-id-clause-passed : goal.returns-in_err-id-clause-passed
returns-in_err-id-clause-passed c = handed _ _ c.in_err-id.field-0.0 c.from_residual-in_err-id.ensures.1
    (top_passed c.args.builder.now c.args.next c.args.state.now.nodes.items _ _ _ _ c.in-Some.ensures.items
    c.in_ok-trans.ensures c.in_err-id.ensures.passed)
