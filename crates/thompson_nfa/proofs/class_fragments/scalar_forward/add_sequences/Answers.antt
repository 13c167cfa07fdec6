use Rattle.std.proofs.Common.{◌∙◌, ap, arith}
use Rattle.thompson_nfa.specs.ByteRoom.{sequence_bytes}
use Rattle.thompson_nfa.proofs.Steps.ErrorLemmas.{handed}
use Rattle.thompson_nfa.proofs.Classes.FollowLemmas.{none_added, still_rising, still_keeps, some_ranges, few_ranges, byte_bounds}
use Rattle.thompson_nfa.proofs.Classes.FollowLemmas.{after_last, one_added, all_added, one_refused}
use Rattle.thompson_nfa.proofs.class_fragments.scalar_forward.add_sequences.Goals as goal

pub loop-sequence-init : goal.loop-sequence-init
loop-sequence-init c =
    let all = c.into_iter-sequence-iterator.ensures.into_iter_gives ∙ c.new-sequence-items.ensures in
    (none_added _ _ _ _ _ _ all c.requires.order, omega (arith, ap sequence_bytes all))

pub add_sequence-requires-clause-some : goal.add_sequence-requires-clause-some
add_sequence-requires-clause-some c =
    some_ranges _ _ _ _ _ _ _ _ _ _ c.loop-sequence.invariant.0 c.requires.begun _ _ c.in-Some.ensures.steps

pub add_sequence-requires-clause-few : goal.add_sequence-requires-clause-few
add_sequence-requires-clause-few c = few_ranges _ _ _ _ _ _ _ _ _ _ c.loop-sequence.invariant.0 c.requires.begun _ _ c.in-Some.ensures.steps

pub add_sequence-requires-clause-bytes : goal.add_sequence-requires-clause-bytes
add_sequence-requires-clause-bytes c = byte_bounds _ _ _ _ _ _ _ _ _ _ c.loop-sequence.invariant.0 c.requires.begun _ _
    c.in-Some.ensures.steps

pub add_sequence-requires-clause-after : goal.add_sequence-requires-clause-after
add_sequence-requires-clause-after c =
    after_last _ _ _ _ _ _ _ _ _ _ c.loop-sequence.invariant.0 c.requires.begun _ _ c.in-Some.ensures.steps

pub add_sequence-requires-clause-rising : goal.add_sequence-requires-clause-rising
add_sequence-requires-clause-rising c = still_rising _ _ _ _ _ _ _ _ _ _ c.loop-sequence.invariant.0 c.requires.begun

pub add_sequence-requires-clause-keeps : goal.add_sequence-requires-clause-keeps
add_sequence-requires-clause-keeps c = still_keeps _ _ _ _ _ _ _ _ _ _ c.loop-sequence.invariant.0 c.requires.begun

pub loop-sequence-preserved : goal.loop-sequence-preserved
loop-sequence-preserved c = (
  one_added _ _ _ _ _ _ _ _ _ _ c.loop-sequence.invariant.0 c.requires.begun _ _ c.in-Some.ensures.steps _ _ _ _
      c.in_ok-add_sequence.ensures.added,
  omega (arith, c.loop-sequence.invariant.1, ap sequence_bytes c.in-Some.ensures.steps, c.in_ok-add_sequence.ensures.weighs),
)

pub returns-in_err-add_sequence-clause-refused : goal.returns-in_err-add_sequence-clause-refused
returns-in_err-add_sequence-clause-refused c = handed _ _ c.in_err-add_sequence.field-0.0 c.from_residual.ensures.1
    (one_refused _ _ _ _ _ _ _ _ _ _ c.loop-sequence.invariant.0 c.requires.begun _ _ c.in_err-add_sequence.ensures.refused)

pub returns-in_err-add_sequence-clause-passed : goal.returns-in_err-add_sequence-clause-passed
returns-in_err-add_sequence-clause-passed c = handed _ _ c.in_err-add_sequence.field-0.0 c.from_residual.ensures.1
    (omega (arith, c.loop-sequence.invariant.1, c.in_err-add_sequence.ensures.passed))

pub returns-clause-added : goal.returns-clause-added
returns-clause-added c = all_added _ _ _ _ _ _ _ _ _ _ c.loop-sequence.invariant.0 c.requires.begun c.in-None.ensures.steps.0

pub returns-clause-weighs : goal.returns-clause-weighs
returns-clause-weighs c = omega (arith, c.loop-sequence.invariant.1, ap sequence_bytes c.in-None.ensures.steps.0)
