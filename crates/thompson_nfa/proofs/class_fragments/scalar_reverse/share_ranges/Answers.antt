use Rattle.std.proofs.Common.{map, ◌∙◌, arith}
use Rattle.hir_core.specs.Sequences.{bytes_of}
use Rattle.thompson_nfa.proofs.Steps.ErrorLemmas.{handed}
use Rattle.thompson_nfa.proofs.Classes.ScalarLemmas.{rising_at}
use Rattle.thompson_nfa.proofs.Classes.SuffixSteps.{none_shared, ready_up_to, capacity_up_to, range_refused, next_shared, places_up_to}
use Rattle.thompson_nfa.proofs.Classes.ClassBytes.{range_passed}
use Rattle.thompson_nfa.proofs.class_fragments.scalar_reverse.share_ranges.Goals as goal

pub loop-place-init : goal.loop-place-init
loop-place-init c = none_shared _ _ c.args.end (map bytes_of c.args.ranges.now)

pub share_range-requires-clause-ready : goal.share_range-requires-clause-ready
share_range-requires-clause-ready c = ready_up_to _ _ _ _ _ _ _ _ c.loop-place.invariant c.requires.ready

pub share_range-requires-clause-places : goal.share_range-requires-clause-places
share_range-requires-clause-places c = places_up_to _ _ _ _ _ _ _ _ c.loop-place.invariant c.requires.places

pub share_range-requires-clause-rising : goal.share_range-requires-clause-rising
share_range-requires-clause-rising c = let less = c.loop-place-test.true in let within = c.requires.within in
    rising_at c.args.ranges.now c.loop-place.place _ c.requires.rising (omega (arith, less, within))

pub returns-in_err-next-clause-capacity : goal.returns-in_err-next-clause-capacity
returns-in_err-next-clause-capacity c = c.in_err-next.ensures.capacity ∙ capacity_up_to _ _ _ _ _ _ _ _ c.loop-place.invariant

pub returns-in_err-next-clause-refused : goal.returns-in_err-next-clause-refused
returns-in_err-next-clause-refused c = handed _ _ c.in_err-next.field-0.0 c.from_residual.ensures.1
    (range_refused _ _ _ _ _ _ _ _ c.loop-place.invariant _ _ c.args.many c.loop-place-test.true c.in_err-next.ensures.refused)

pub loop-place-preserved : goal.loop-place-preserved
loop-place-preserved c = let less = c.loop-place-test.true in let within = c.requires.within in
    next_shared _ _ _ _ _ _ c.loop-place.place c.args.ranges.now c.loop-place.invariant _ _ _ _ (omega (
      arith,
      less,
      within,
    )) c.in_ok-next.ensures.shared

pub returns-clause-capacity : goal.returns-clause-capacity
returns-clause-capacity c = capacity_up_to _ _ _ _ _ _ _ _ c.loop-place.invariant

pub returns-in_err-next-clause-passed : goal.returns-in_err-next-clause-passed
returns-in_err-next-clause-passed c = handed _ _ c.in_err-next.field-0.0 c.from_residual.ensures.1
    (range_passed _ _ _ _ _ _ _ _ c.loop-place.invariant _ c.args.many c.loop-place-test.true c.in_err-next.ensures.refused.passed)
