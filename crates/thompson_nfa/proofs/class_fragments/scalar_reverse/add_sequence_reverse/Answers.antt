use Rattle.thompson_nfa.proofs.Steps.ErrorLemmas.{handed}
use Rattle.thompson_nfa.proofs.Classes.SuffixSteps.{ranges_share, last_refused, others_few, last_rising, still_there, still_kind}
use Rattle.thompson_nfa.proofs.Classes.SuffixSteps.{way_refused}
use Rattle.std.proofs.Common.{arith}
use Rattle.thompson_nfa.proofs.Classes.ClassBytes.{others_long, ranges_weigh}
use Rattle.thompson_nfa.proofs.class_fragments.scalar_reverse.add_sequence_reverse.Goals as goal

pub last_range-requires-clause-ready : goal.last_range-requires-clause-ready
last_range-requires-clause-ready c = (ranges_share c.in_ok-next.ensures.shared).ready c.requires.ready

pub last_range-requires-clause-rising : goal.last_range-requires-clause-rising
last_range-requires-clause-rising c = last_rising _ _ _ c.as_slice-ranges.ensures c.requires.some c.requires.rising

pub returns-in_err-first-clause-refused : goal.returns-in_err-first-clause-refused
returns-in_err-first-clause-refused c = handed _ _ c.in_err-first.field-0.0 c.from_residual-in_err-first.ensures.1
    (last_refused _ _ _ _ _ _ _ _ _ c.in_ok-next.ensures.shared (others_few _ _ c.as_slice-ranges.ensures c.requires.few)
    c.in_err-first.ensures.refused)

pub lead-requires-clause-from : goal.lead-requires-clause-from
lead-requires-clause-from c = still_there _ _ _ _ _ _ _ _ _ _ _ c.in_ok-next.ensures.shared c.in_ok-first.ensures.added c.args.choice
    c.requires.choice.inside

pub lead-requires-clause-kind : goal.lead-requires-clause-kind
lead-requires-clause-kind c = still_kind _ _ _ _ _ _ _ _ _ _ _ c.in_ok-next.ensures.shared c.in_ok-first.ensures.added c.args.choice
    c.requires.choice.inside c.requires.choice.kind

pub returns-in_err-lead-clause-refused : goal.returns-in_err-lead-clause-refused
returns-in_err-lead-clause-refused c = handed _ _ c.in_err-lead.field-0.0 c.from_residual-in_err-lead.ensures.1
    (way_refused _ _ _ _ _ _ _ _ _ _ _ c.in_ok-next.ensures.shared c.in_ok-first.ensures.added _ _
    (others_few _ _ c.as_slice-ranges.ensures c.requires.few) c.in_err-lead.ensures.stays)

pub returns-in_err-first-clause-passed : goal.returns-in_err-first-clause-passed
returns-in_err-first-clause-passed c = handed _ _ c.in_err-first.field-0.0 c.from_residual-in_err-first.ensures.1
    (omega (
      arith,
      others_long _ _ c.as_slice-ranges.ensures c.requires.some,
      ranges_weigh c.in_ok-next.ensures.shared,
      c.in_err-first.ensures.refused.passed,
    ))

pub returns-in_err-lead-clause-passed : goal.returns-in_err-lead-clause-passed
returns-in_err-lead-clause-passed c = handed _ _ c.in_err-lead.field-0.0 c.from_residual-in_err-lead.ensures.1
    (omega (
      arith,
      others_long _ _ c.as_slice-ranges.ensures c.requires.some,
      ranges_weigh c.in_ok-next.ensures.shared,
      c.in_ok-first.ensures.added.added.bytes,
      c.in_err-lead.ensures.stays.passed,
    ))
