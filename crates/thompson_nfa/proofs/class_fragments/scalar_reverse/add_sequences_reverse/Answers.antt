use Rattle.std.proofs.Common.{◌∙◌}
use Rattle.thompson_nfa.proofs.Steps.ErrorLemmas.{handed}
use Rattle.thompson_nfa.proofs.Classes.SuffixSteps.{none_met, met_ready, met_capacity, met_there, met_kind, met_rising, met_next}
use Rattle.thompson_nfa.proofs.Classes.SuffixSteps.{met_refused}
use Rattle.thompson_nfa.proofs.Classes.ClassBytes.{met_passed}
use Rattle.thompson_nfa.proofs.class_fragments.scalar_reverse.add_sequences_reverse.Goals as goal

pub loop-sequence-init : goal.loop-sequence-init
loop-sequence-init c = none_met _ _ _ _ c.args.first c.args.last _ (c.into_iter-sequence-iterator.ensures.into_iter_gives
    ∙ c.new-sequence-items.ensures)

pub add_sequence_reverse-requires-clause-ready : goal.add_sequence_reverse-requires-clause-ready
add_sequence_reverse-requires-clause-ready c = met_ready _ _ _ _ _ _ c.args.first c.args.last _ c.loop-sequence.invariant c.requires.ready

pub add_sequence_reverse-requires-clause-choice : goal.add_sequence_reverse-requires-clause-choice
add_sequence_reverse-requires-clause-choice c = record {
  inside = met_there _ _ _ _ _ _ c.args.first c.args.last _ c.loop-sequence.invariant c.requires.choice;
  kind = met_kind _ _ _ _ _ _ c.args.first c.args.last _ c.loop-sequence.invariant c.requires.choice c.requires.kind;
}

pub add_sequence_reverse-requires-clause-rising : goal.add_sequence_reverse-requires-clause-rising
add_sequence_reverse-requires-clause-rising c = met_rising _ _ _ _ _ _ c.args.first c.args.last _ c.loop-sequence.invariant _ _
    c.in-Some.ensures.steps

pub loop-sequence-preserved : goal.loop-sequence-preserved
loop-sequence-preserved c = met_next _ _ _ _ _ _ c.args.first c.args.last _ c.loop-sequence.invariant _ _ c.in-Some.ensures.steps _ _
    c.in_ok-add_sequence_reverse.ensures.added

pub returns-in_err-add_sequence_reverse-clause-capacity : goal.returns-in_err-add_sequence_reverse-clause-capacity
returns-in_err-add_sequence_reverse-clause-capacity c = c.in_err-add_sequence_reverse.ensures.capacity
    ∙ met_capacity _ _ _ _ _ _ c.args.first c.args.last _ c.loop-sequence.invariant

pub returns-in_err-add_sequence_reverse-clause-refused : goal.returns-in_err-add_sequence_reverse-clause-refused
returns-in_err-add_sequence_reverse-clause-refused c = handed _ _ c.in_err-add_sequence_reverse.field-0.0 c.from_residual.ensures.1
    (met_refused _ _ _ _ _ _ c.args.first c.args.last _ c.loop-sequence.invariant _ _ c.in-Some.ensures.steps _ _
    c.in_err-add_sequence_reverse.ensures.refused)

pub returns-clause-capacity : goal.returns-clause-capacity
returns-clause-capacity c = met_capacity _ _ _ _ _ _ c.args.first c.args.last _ c.loop-sequence.invariant

pub returns-in_err-add_sequence_reverse-clause-passed : goal.returns-in_err-add_sequence_reverse-clause-passed
returns-in_err-add_sequence_reverse-clause-passed c = handed _ _ c.in_err-add_sequence_reverse.field-0.0 c.from_residual.ensures.1
    (met_passed _ _ _ _ _ _ c.args.first c.args.last _ c.loop-sequence.invariant _ _ c.in-Some.ensures.steps _
    c.in_err-add_sequence_reverse.ensures.passed)
