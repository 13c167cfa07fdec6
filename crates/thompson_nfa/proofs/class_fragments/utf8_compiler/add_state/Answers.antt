use Rattle.std.proofs.Common.{◌+◌, ◌*◌, length, map, arith}
use Rattle.nfa_core.specs.Transitions.{range_of}
use Rattle.thompson_nfa.proofs.Steps.ErrorLemmas.{handed}
use Rattle.thompson_nfa.proofs.Steps.StepLemmas.{add_refused}
use Rattle.thompson_nfa.proofs.class_fragments.utf8_compiler.add_state.Goals as goal

pub returns-in_err-id-clause-passed : goal.returns-in_err-id-clause-passed
returns-in_err-id-clause-passed c = handed _ _ c.in_err-id.field-0.0 c.from_residual.ensures.1
    (add_refused _ _ _ (24 + 8 * length (map range_of c.args.trans.items)) _ c.in_err-id.ensures.0 c.in_err-id.ensures.1
    (omega arith)).passed
