use Rattle.std.proofs.Common.{◌+◌, ◌*◌, length}
use Rattle.thompson_nfa.proofs.Fragments.ClassLemmas.{ascends, few_ranges, bytes_shown, bytes_counted}
use Rattle.thompson_nfa.proofs.Steps.StepLemmas.{add_refused}
use Rattle.thompson_nfa.proofs.Steps.ErrorLemmas.{handed}
use Rattle.thompson_nfa.proofs.class_fragments.class.add_ranges.Goals as goal

pub add_sparse-requires : goal.add_sparse-requires
add_sparse-requires c = ascends c.args.next c.args.ranges.now _ c.requires c.in_ok-all.ensures.each

pub returns-in_err-id-clause-refused : goal.returns-in_err-id-clause-refused
returns-in_err-id-clause-refused c = handed _ _ c.in_err-id.field-0.0 c.from_residual-in_err-id.ensures.1
    (add_refused _ _ _ 2072 _ c.in_err-id.ensures.0 c.in_err-id.ensures.1
    (bytes_shown c.args.next c.args.ranges.now _ c.in_ok-all.ensures.each
    (few_ranges c.args.ranges.now c.requires c.in_ok-all.ensures.bytes)))

pub returns-in_err-id-clause-passed : goal.returns-in_err-id-clause-passed
returns-in_err-id-clause-passed c = handed _ _ c.in_err-id.field-0.0 c.from_residual-in_err-id.ensures.1
    (add_refused _ _ _ (24 + 8 * length c.args.ranges.now) _ c.in_err-id.ensures.0 c.in_err-id.ensures.1
    (bytes_counted c.args.next c.args.ranges.now _ c.in_ok-all.ensures.each)).passed
