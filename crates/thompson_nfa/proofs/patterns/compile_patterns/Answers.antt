use Rattle.std.proofs.Common.{arith}
use Rattle.thompson_nfa.specs.ByteRoom.{at_most}
use Rattle.thompson_nfa.proofs.Steps.ErrorLemmas.{handed}
use Rattle.thompson_nfa.proofs.WholePatterns.UnitedLemmas.{none_compiled, one_compiled, second_refused, further_refused, several_compiled}
use Rattle.thompson_nfa.proofs.WholePatterns.ListLemmas.{first_pattern, two_patterns, no_patterns, union_way, none_take, one_takes}
use Rattle.thompson_nfa.proofs.WholePatterns.ListLemmas.{several_take}
use Rattle.thompson_nfa.proofs.patterns.compile_patterns.Goals as goal

pub returns-in_default-clause-has : goal.returns-in_default-clause-has
returns-in_default-clause-has c = none_compiled _ _ _ _ _ c.in_default.ensures.cases c.in_ok-none.ensures

pub returns-in_default-split_first-clause-has : goal.returns-in_default-split_first-clause-has
returns-in_default-split_first-clause-has c = one_compiled _ _ _ _ _ _ _ c.in-Some.ensures.cases.0 c.in_default-split_first.ensures.cases
    c.in_ok-first.ensures.has

pub returns-in_err-second-clause-refused : goal.returns-in_err-second-clause-refused
returns-in_err-second-clause-refused c = handed _ _ c.in_err-second.field-0.0 c.from_residual-in_err-second.ensures.1
    (second_refused _ _ _ _ _ _ _ _ _ _ c.in-Some.ensures.cases.0 c.in-Some-split_first.ensures.cases.0 c.in_ok-first.ensures.has
    c.in_err-second.ensures.refused)

pub lead-requires-clause-to : goal.lead-requires-clause-to
lead-requires-clause-to c =
    let a = c.in_ok-first.ensures.has.starts_there 0 0 (omega arith) in let b = c.in_ok-second.ensures.has.longer in let d =
    c.in_ok-union.ensures.size in omega arith

pub lead-requires-2-clause-to : goal.lead-requires-2-clause-to
lead-requires-2-clause-to c =
    let a = c.in_ok-second.ensures.has.starts_there 0 0 (omega arith) in let d = c.in_ok-union.ensures.size in let e =
    c.in_ok-lead.ensures.size in omega arith

pub returns-in_err-compile_further-clause-refused :
    goal.returns-in_err-compile_further-clause-refused
returns-in_err-compile_further-clause-refused c = handed _ _ c.in_err-compile_further.field-0.0
    c.from_residual-in_err-compile_further.ensures.1
    (further_refused _ _ _ _ _ _ _ _ _ _ _ _ c.in_ok-first.ensures.has c.in_ok-second.ensures.has c.in_ok-union.ensures c.in_ok-lead.ensures
    c.in_ok-lead-2.ensures _ _ _ _
    c.in-Some.ensures.cases.0 c.in-Some-split_first.ensures.cases.0 c.in_err-compile_further.ensures.refused)

pub returns-clause-has : goal.returns-clause-has
returns-clause-has c = several_compiled _ _ _ _ _ _ _ _ _ _ _ _ c.in_ok-first.ensures.has c.in_ok-second.ensures.has c.in_ok-union.ensures
    c.in_ok-lead.ensures c.in_ok-lead-2.ensures _ _
    c.in_ok-compile_further.ensures.has _ _ c.in-Some.ensures.cases.0 c.in-Some-split_first.ensures.cases.0

pub returns-in_err-first-clause-passed : goal.returns-in_err-first-clause-passed
returns-in_err-first-clause-passed c = handed _ _ c.in_err-first.field-0.0 c.from_residual-in_err-first.ensures.1
    (omega (
      arith,
      first_pattern (at_most c.args.how.shrink) c.args.how.which _ _ _ c.in-Some.ensures.cases.0,
      c.in_err-first.ensures.passed,
    ))

pub returns-in_err-second-clause-passed : goal.returns-in_err-second-clause-passed
returns-in_err-second-clause-passed c = handed _ _ c.in_err-second.field-0.0 c.from_residual-in_err-second.ensures.1
    (omega (
      arith,
      two_patterns (at_most c.args.how.shrink) c.args.how.which _ _ _ _ _ c.in-Some.ensures.cases.0 c.in-Some-split_first.ensures.cases.0,
      c.in_ok-first.ensures.weighs.most,
      c.in_err-second.ensures.passed,
    ))

pub returns-in_err-union-clause-passed : goal.returns-in_err-union-clause-passed
returns-in_err-union-clause-passed c = handed _ _ c.in_err-union.field-0.0 c.from_residual-in_err-union.ensures.1
    (omega (
      arith,
      two_patterns (at_most c.args.how.shrink) c.args.how.which _ _ _ _ _ c.in-Some.ensures.cases.0 c.in-Some-split_first.ensures.cases.0,
      c.in_ok-first.ensures.weighs.most,
      c.in_ok-second.ensures.weighs.most,
      c.in_err-union.ensures.passed,
    ))

pub returns-in_err-lead-clause-passed : goal.returns-in_err-lead-clause-passed
returns-in_err-lead-clause-passed c = handed _ _ c.in_err-lead.field-0.0 c.from_residual-in_err-lead.ensures.1
    (omega (
      arith,
      two_patterns (at_most c.args.how.shrink) c.args.how.which _ _ _ _ _ c.in-Some.ensures.cases.0 c.in-Some-split_first.ensures.cases.0,
      c.in_ok-first.ensures.weighs.most,
      c.in_ok-second.ensures.weighs.most,
      c.in_ok-union.ensures.bytes,
      c.in_err-lead.ensures.stays.passed,
    ))

pub returns-in_err-lead-2-clause-passed : goal.returns-in_err-lead-2-clause-passed
returns-in_err-lead-2-clause-passed c = handed _ _ c.in_err-lead-2.field-0.0 c.from_residual-in_err-lead-2.ensures.1
    (omega (
      arith,
      two_patterns (at_most c.args.how.shrink) c.args.how.which _ _ _ _ _ c.in-Some.ensures.cases.0 c.in-Some-split_first.ensures.cases.0,
      c.in_ok-first.ensures.weighs.most,
      c.in_ok-second.ensures.weighs.most,
      c.in_ok-union.ensures.bytes,
      c.in_ok-lead.ensures.bytes,
      c.in_err-lead-2.ensures.stays.passed,
    ))

pub returns-in_err-compile_further-clause-passed : goal.returns-in_err-compile_further-clause-passed
returns-in_err-compile_further-clause-passed c =
    handed _ _ c.in_err-compile_further.field-0.0 c.from_residual-in_err-compile_further.ensures.1
    (omega (
      arith,
      two_patterns (at_most c.args.how.shrink) c.args.how.which _ _ _ _ _ c.in-Some.ensures.cases.0 c.in-Some-split_first.ensures.cases.0,
      c.in_ok-first.ensures.weighs.most,
      c.in_ok-second.ensures.weighs.most,
      c.in_ok-union.ensures.bytes,
      c.in_ok-lead.ensures.bytes,
      c.in_ok-lead-2.ensures.bytes,
      c.in_err-compile_further.ensures.passed,
    ))

pub compile_further-requires-clause-way : goal.compile_further-requires-clause-way
compile_further-requires-clause-way c =
    union_way _ _ _ _ _ _ _ c.in_ok-union.ensures c.in_ok-lead.ensures c.in_ok-lead-2.ensures

pub returns-clause-weighs : goal.returns-clause-weighs
returns-clause-weighs c = several_take c.args.how _ _ _ _ _ _ _ _ _ _ _ _ _ _ _ c.in-Some.ensures.cases.0
    c.in-Some-split_first.ensures.cases.0 c.in_ok-first.ensures.weighs c.in_ok-second.ensures.weighs c.in_ok-union.ensures
    c.in_ok-lead.ensures c.in_ok-lead-2.ensures c.in_ok-compile_further.ensures.weighs

pub returns-in_default-clause-weighs : goal.returns-in_default-clause-weighs
returns-in_default-clause-weighs c = none_take c.args.how _ _ _ _ c.in_default.ensures.cases c.in_ok-none.ensures

pub returns-in_default-split_first-clause-weighs : goal.returns-in_default-split_first-clause-weighs
returns-in_default-split_first-clause-weighs c = one_takes c.args.how _ _ _ _ _ c.in-Some.ensures.cases.0
    c.in_default-split_first.ensures.cases c.in_ok-first.ensures.weighs

pub returns-in_err-none-clause-passed : goal.returns-in_err-none-clause-passed
returns-in_err-none-clause-passed c = handed _ _ c.in_err-none.field-0.0 c.from_residual.ensures.1
    (omega (
      arith,
      no_patterns (at_most c.args.how.shrink) c.args.how.which c.args.exprs.now c.in_default.ensures.cases,
      c.in_err-none.ensures.passed,
    ))
