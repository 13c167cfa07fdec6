use Rattle.std.proofs.Common.{◌∙◌, ap, sym, refl, length, arith}
use Rattle.hir_core.specs.Weight.{weight}
use Rattle.hir_core.specs.Facts.{minimum_len}
use Rattle.nfa_core.specs.BuilderStates.{Assembly}
use Rattle.thompson_nfa.specs.Compiled.{is_above_zero}
use Rattle.thompson_nfa.specs.ByteRoom.{tree_least, tree_most}
use Rattle.thompson_nfa.proofs.Steps.ErrorLemmas.{handed, only_fails}
use Rattle.thompson_nfa.proofs.Steps.GrowLemmas.{ready_later}
use Rattle.thompson_nfa.proofs.Steps.ProgressLemmas.{made_capped}
use Rattle.thompson_nfa.proofs.Fragments.RepeatLemmas.{star_made, star_does, plus_made, plus_does, loop_made, loop_does}
use Rattle.thompson_nfa.proofs.Fragments.OptionLemmas.{option_made, option_does}
use Rattle.thompson_nfa.proofs.Fragments.CopyLemmas.{copies_first, copies_then, copies_exact, copies_loop, rounds_owed, rounds_first}
use Rattle.thompson_nfa.proofs.Fragments.CopyLemmas.{rounds_then, rounds_made, rounds_does, copies_done, at_least_made, stopped_does}
use Rattle.thompson_nfa.proofs.Fragments.CopyLemmas.{bounds_does, groups_again, rounds_take, first_copy_fails, next_copy_fails}
use Rattle.thompson_nfa.proofs.Fragments.CopyLemmas.{copy_lead_fails, first_round_fails, next_round_fails, round_lead_fails}
use Rattle.thompson_nfa.proofs.Fragments.PartBytes.{copies_before, loop_is, some_owed, group_kept}
use Rattle.thompson_nfa.proofs.Fragments.TakeLemmas.{takes_wider, star_takes, plus_takes, option_takes, loop_takes, capture_takes}
use Rattle.thompson_nfa.proofs.Fragments.TakeLemmas.{join_takes}
use Rattle.thompson_nfa.proofs.Fragments.CaptureLemmas.{capture_made, capture_does, plain_does}
use Rattle.thompson_nfa.proofs.Fragments.ConcatLemmas.{parts_first, parts_then, parts_made, parts_does, parts_weigh, turned_part}
use Rattle.thompson_nfa.proofs.Fragments.ConcatLemmas.{first_part_fails, next_part_fails, part_lead_fails}
use Rattle.thompson_nfa.proofs.Fragments.TurnLemmas.{none_is_concat}
use Rattle.thompson_nfa.proofs.Fragments.JoinLemmas.{does_same}
use Rattle.hir_core.proofs.ForCallers.{weight_in_concat}
use Rattle.thompson_nfa.proofs.compile.+compile.Goals as goal
use Rattle.thompson_nfa.proofs.compile.+compile.Answers.Alternatives as alternatives
mod Alternatives

pub zero_or_more-returns-clause-made : goal.zero_or_more-returns-clause-made
zero_or_more-returns-clause-made t c =
    made_capped _ (star_made _ _ _ _ _ c.args.greedy _ _ _ _ c.in_ok-union.ensures c.in_ok-body.ensures.made c.in_ok-lead.ensures
    c.in_ok-lead-2.ensures) (omega arith)

pub zero_or_more-returns-clause-denotes : goal.zero_or_more-returns-clause-denotes
zero_or_more-returns-clause-denotes t c =
    star_does _ _ _ _ _ c.args.greedy _ _ _ _ c.in_ok-union.ensures c.in_ok-body.ensures.made c.in_ok-lead.ensures c.in_ok-lead-2.ensures
    c.args.x.now c.in_ok-body.ensures.denotes

pub zero_or_more-returns-clause-weighs : goal.zero_or_more-returns-clause-weighs
zero_or_more-returns-clause-weighs t c = takes_wider _ _ _ _ _ _ _
    (star_takes _ _ _ _ _ _ _ _ _ _ _ c.args.greedy c.in_ok-union.ensures c.in_ok-body.ensures.made c.in_ok-body.ensures.weighs
    c.in_ok-lead.ensures c.in_ok-lead-2.ensures)
    (omega (
      arith,
      loop_is _ (tree_least c.args.how.which c.args.x.now) (sym c.reads-some.ensures ∙ c.if-not-some.false),
    ))
    (omega (
      arith,
      loop_is _ (tree_most c.args.how.which c.args.how.shrink c.args.x.now) (sym c.reads-some.ensures ∙ c.if-not-some.false),
    ))

pub zero_or_more_of_empty-returns-clause-made : goal.zero_or_more_of_empty-returns-clause-made
zero_or_more_of_empty-returns-clause-made t c =
    loop_made _ _ _ _ _ _ _ _ _ _ c.args.greedy _ _ _ _ _ _ c.in_ok-body.ensures.made c.in_ok-plus.ensures c.in_ok-lead.ensures
    c.in_ok-lead-2.ensures c.in_ok-question.ensures c.in_ok-empty.ensures
    c.in_ok-lead-3.ensures c.in_ok-lead-4.ensures c.in_ok-lead-5.ensures

pub zero_or_more_of_empty-returns-clause-denotes : goal.zero_or_more_of_empty-returns-clause-denotes
zero_or_more_of_empty-returns-clause-denotes t c =
    loop_does _ _ _ _ _ _ _ _ _ _ c.args.greedy _ _ _ _ _ _ c.in_ok-body.ensures.made c.in_ok-plus.ensures c.in_ok-lead.ensures
    c.in_ok-lead-2.ensures c.in_ok-question.ensures c.in_ok-empty.ensures
    c.in_ok-lead-3.ensures c.in_ok-lead-4.ensures c.in_ok-lead-5.ensures c.args.x.now c.in_ok-body.ensures.denotes

pub zero_or_more_of_empty-returns-clause-weighs : goal.zero_or_more_of_empty-returns-clause-weighs
zero_or_more_of_empty-returns-clause-weighs t c =
    loop_takes _ _ _ _ _ _ _ _ _ _ _ _ _ _ _ _ _ c.args.greedy c.in_ok-body.ensures.made c.in_ok-body.ensures.weighs c.in_ok-plus.ensures
    c.in_ok-lead.ensures c.in_ok-lead-2.ensures c.in_ok-question.ensures c.in_ok-empty.ensures c.in_ok-lead-3.ensures
    c.in_ok-lead-4.ensures _ c.in_ok-lead-5.ensures

pub one_or_more-returns-clause-made : goal.one_or_more-returns-clause-made
one_or_more-returns-clause-made t c = plus_made _ _ _ _ _ c.args.greedy _ _ _ _ c.in_ok-body.ensures.made c.in_ok-union.ensures
    c.in_ok-lead.ensures c.in_ok-lead-2.ensures

pub one_or_more-returns-clause-denotes : goal.one_or_more-returns-clause-denotes
one_or_more-returns-clause-denotes t c =
    plus_does _ _ _ _ _ c.args.greedy _ _ _ _ c.in_ok-body.ensures.made c.in_ok-union.ensures c.in_ok-lead.ensures c.in_ok-lead-2.ensures
    c.args.x.now c.in_ok-body.ensures.denotes

pub one_or_more-returns-clause-weighs : goal.one_or_more-returns-clause-weighs
one_or_more-returns-clause-weighs t c = plus_takes _ _ _ _ _ _ _ _ _ _ _ c.args.greedy c.in_ok-body.ensures.made
    c.in_ok-body.ensures.weighs c.in_ok-union.ensures c.in_ok-lead.ensures c.in_ok-lead-2.ensures

pub option-returns-clause-made : goal.option-returns-clause-made
option-returns-clause-made t c =
    option_made _ _ _ _ _ c.args.greedy _ _ _ _ _ c.in_ok-union.ensures c.in_ok-body.ensures.made c.in_ok-lead.ensures
    c.in_ok-lead-2.ensures c.requires.there

pub option-returns-clause-denotes : goal.option-returns-clause-denotes
option-returns-clause-denotes t c =
    option_does _ _ _ _ _ c.args.greedy _ _ _ _ _ c.in_ok-union.ensures c.in_ok-body.ensures.made c.in_ok-lead.ensures
    c.in_ok-lead-2.ensures c.requires.there c.args.x.now c.in_ok-body.ensures.denotes

pub option-returns-clause-weighs : goal.option-returns-clause-weighs
option-returns-clause-weighs t c = option_takes _ _ _ _ _ _ _ _ _ _ _ c.args.greedy _ c.in_ok-union.ensures c.in_ok-body.ensures.made
    c.in_ok-body.ensures.weighs c.in_ok-lead.ensures c.in_ok-lead-2.ensures

pub copies-loop-init : goal.copies-loop-init
copies-loop-init t c = (
  copies_first c.args.how _ _ _ _ c.args.x.now c.in_ok-first.ensures.made c.in_ok-first.ensures.denotes
      c.in_ok-first.ensures.groups c.in_ok-first.ensures.weighs,
  c.requires.some,
)

pub copies-loop-preserved : goal.copies-loop-preserved
copies-loop-preserved t c = (
  copies_then c.args.how _ _ _ _ _ _ _ _ c.loop.counter c.args.x.now c.loop.invariant.0 c.in_ok-next.ensures.made
      c.in_ok-next.ensures.denotes c.in_ok-next.ensures.groups c.in_ok-lead.ensures c.in_ok-next.ensures.weighs,
  omega arith,
)

pub copies-returns-clause-denotes : goal.copies-returns-clause-denotes
copies-returns-clause-denotes t c = copies_done c.args.how _ _ _ _ c.loop.counter c.args.n c.args.x.now c.loop.invariant.0
    c.loop.invariant.1 c.loop-test.false

pub copies-returns-in_err-first : goal.copies-returns-in_err-first
copies-returns-in_err-first t c = only_fails _ _ _ _ _ _ _ c.in_err-first.field-0.0 c.from_residual.ensures.1
    (first_copy_fails c.args.how _ _ c.args.n c.args.x.now _ c.requires.some c.in_err-first.ensures.refused
    c.in_err-first.ensures.passed)

pub copies-returns-in_err-next : goal.copies-returns-in_err-next
copies-returns-in_err-next t c = only_fails _ _ _ _ _ _ _ c.in_err-next.field-0.0 c.from_residual-in_err-next.ensures.1
    (next_copy_fails c.args.how _ _ _ _ c.loop.counter c.args.n c.args.x.now c.loop.invariant.0 c.loop-test.true _ _
    c.in_err-next.ensures.refused c.in_err-next.ensures.passed)

pub copies-returns-in_err-lead : goal.copies-returns-in_err-lead
copies-returns-in_err-lead t c = only_fails _ _ _ _ _ _ _ c.in_err-lead.field-0.0 c.from_residual-in_err-lead.ensures.1
    (copy_lead_fails c.args.how _ _ _ _ c.loop.counter c.args.n c.args.x.now c.loop.invariant.0 c.loop-test.true _ _ _ _ _
    c.in_ok-next.ensures.made c.in_ok-next.ensures.weighs c.in_err-lead.ensures)

pub at_least-returns-clause-made : goal.at_least-returns-clause-made
at_least-returns-clause-made t c =
    at_least_made c.args.how.shrink _ _ _ _ _ _ _ _ c.args.min c.args.greedy c.args.x.now
    (omega arith) c.in_ok-prefix.ensures.made c.in_ok-last.ensures.made c.in_ok-lead.ensures

pub at_least-returns-clause-denotes : goal.at_least-returns-clause-denotes
at_least-returns-clause-denotes t c =
    copies_loop _ _ _ _ _ _ _ _ _ _ c.args.min c.args.greedy c.args.x.now c.in_ok-prefix.ensures.made c.in_ok-last.ensures.made
    c.in_ok-lead.ensures (omega arith)
    c.in_ok-prefix.ensures.denotes c.in_ok-last.ensures.denotes

pub at_least-returns-clause-groups : goal.at_least-returns-clause-groups
at_least-returns-clause-groups t c =
    ap (λ (b : Assembly). b.groups) c.in_ok-lead.ensures.settings
    ∙ groups_again c.args.how.which _ _ c.args.x.now _ _ _ (ap (λ (b : Assembly). length b.starts)
    c.in_ok-prefix.ensures.made.fragment.grows.settings) c.in_ok-prefix.ensures.groups c.in_ok-last.ensures.groups

pub at_least-returns-clause-weighs : goal.at_least-returns-clause-weighs
at_least-returns-clause-weighs t c = takes_wider _ _ _ _ _ _ _
    (join_takes _ _ _ _ _ _ _ _ _ _ _ c.in_ok-prefix.ensures.weighs c.in_ok-prefix.ensures.made.fragment.end_there
    c.in_ok-last.ensures.made c.in_ok-last.ensures.weighs _ c.in_ok-lead.ensures)
    (omega (
      arith,
      some_owed c.args.min (is_above_zero (minimum_len c.args.x.now)) (tree_least c.args.how.which c.args.x.now) (omega arith),
      copies_before c.args.min (tree_least c.args.how.which c.args.x.now) (omega arith),
    ))
    (omega (
      arith,
      some_owed c.args.min (is_above_zero (minimum_len c.args.x.now)) (tree_most c.args.how.which c.args.how.shrink c.args.x.now) (omega
          arith),
      copies_before c.args.min (tree_most c.args.how.which c.args.how.shrink c.args.x.now) (omega arith),
    ))

pub up_to-loop-init : goal.up_to-loop-init
up_to-loop-init t c =
    rounds_first c.args.how _ _ _ _ _ _ c.args.most c.args.greedy c.args.x.now
    (omega arith) c.in_ok-exit.ensures c.in_ok-first.ensures.made c.in_ok-first.ensures.denotes c.in_ok-first.ensures.groups
    c.in_ok-first.ensures.weighs

pub up_to-loop-preserved : goal.up_to-loop-preserved
up_to-loop-preserved t c =
    rounds_then c.args.how _ _ _ _ _ c.loop.counter 0 c.args.most _ c.args.greedy c.args.x.now c.loop.invariant _ _ _ _ c.loop-test.true
    c.in_ok-next.ensures.made c.in_ok-next.ensures.denotes
    c.in_ok-next.ensures.groups c.in_ok-lead.ensures c.in_ok-next.ensures.weighs

pub up_to-returns-clause-made : goal.up_to-returns-clause-made
up_to-returns-clause-made t c = rounds_made c.args.how _ _ _ _ _ c.loop.counter 0 c.args.most _ c.args.greedy c.args.x.now c.loop.invariant
    _ c.in_ok-lead-2.ensures c.loop-test.false

pub up_to-returns-clause-denotes : goal.up_to-returns-clause-denotes
up_to-returns-clause-denotes t c = rounds_does c.args.how _ _ _ _ _ c.loop.counter 0 c.args.most _ c.args.greedy c.args.x.now
    c.loop.invariant _ c.in_ok-lead-2.ensures c.loop-test.false

pub up_to-returns-in_err-first : goal.up_to-returns-in_err-first
up_to-returns-in_err-first t c = only_fails _ _ _ _ _ _ _ c.in_err-first.field-0.0 c.from_residual-in_err-first.ensures.1
    (first_round_fails c.args.how _ _ _ _ c.args.most c.args.x.now _ c.requires.some c.in_ok-exit.ensures
    c.in_err-first.ensures.refused c.in_err-first.ensures.passed)

pub up_to-returns-in_err-next : goal.up_to-returns-in_err-next
up_to-returns-in_err-next t c = only_fails _ _ _ _ _ _ _ c.in_err-next.field-0.0 c.from_residual-in_err-next.ensures.1
    (next_round_fails c.args.how _ _ _ _ _ c.loop.counter 0 c.args.most _ c.args.greedy c.args.x.now c.loop.invariant _ _
    c.loop-test.true c.in_err-next.ensures.refused c.in_err-next.ensures.passed)

pub up_to-returns-in_err-lead : goal.up_to-returns-in_err-lead
up_to-returns-in_err-lead t c = only_fails _ _ _ _ _ _ _ c.in_err-lead.field-0.0 c.from_residual-in_err-lead.ensures.1
    (round_lead_fails c.args.how _ _ _ _ _ c.loop.counter 0 c.args.most _ c.args.greedy c.args.x.now c.loop.invariant _ _ _ _ _
    c.loop-test.true c.in_ok-next.ensures.made c.in_ok-next.ensures.weighs c.in_err-lead.ensures)

pub up_to-returns-clause-weighs : goal.up_to-returns-clause-weighs
up_to-returns-clause-weighs t c = rounds_take c.args.how _ _ _ _ _ c.loop.counter 0 c.args.most _ c.args.greedy c.args.x.now
    c.loop.invariant _ c.in_ok-lead-2.ensures c.loop-test.false

pub owed_and_more-loop-init : goal.owed_and_more-loop-init
owed_and_more-loop-init t c =
    rounds_owed c.args.how _ _ _ _ _ _ c.args.min c.args.most c.args.greedy c.args.x.now c.requires.ordered c.in_ok-prefix.ensures.made
    c.in_ok-prefix.ensures.denotes c.in_ok-prefix.ensures.groups c.in_ok-exit.ensures c.in_ok-prefix.ensures.weighs

pub owed_and_more-loop-preserved : goal.owed_and_more-loop-preserved
owed_and_more-loop-preserved t c =
    rounds_then c.args.how _ _ _ _ _ c.loop.counter c.args.min c.args.most _ c.args.greedy c.args.x.now c.loop.invariant _ _ _ _
    c.loop-test.true c.in_ok-next.ensures.made c.in_ok-next.ensures.denotes
    c.in_ok-next.ensures.groups c.in_ok-lead.ensures c.in_ok-next.ensures.weighs

pub owed_and_more-returns-clause-made : goal.owed_and_more-returns-clause-made
owed_and_more-returns-clause-made t c = rounds_made c.args.how _ _ _ _ _ c.loop.counter c.args.min c.args.most _ c.args.greedy c.args.x.now
    c.loop.invariant _ c.in_ok-lead-2.ensures c.loop-test.false

pub owed_and_more-returns-clause-denotes : goal.owed_and_more-returns-clause-denotes
owed_and_more-returns-clause-denotes t c = rounds_does c.args.how _ _ _ _ _ c.loop.counter c.args.min c.args.most _ c.args.greedy
    c.args.x.now c.loop.invariant _ c.in_ok-lead-2.ensures c.loop-test.false

pub owed_and_more-returns-clause-weighs : goal.owed_and_more-returns-clause-weighs
owed_and_more-returns-clause-weighs t c = rounds_take c.args.how _ _ _ _ _ c.loop.counter c.args.min c.args.most _ c.args.greedy
    c.args.x.now c.loop.invariant _ c.in_ok-lead-2.ensures c.loop-test.false

pub owed_and_more-returns-in_err-lead-clause-passed : goal.owed_and_more-returns-in_err-lead-clause-passed
owed_and_more-returns-in_err-lead-clause-passed t c = handed _ _ c.in_err-lead.field-0.0 c.from_residual-in_err-lead.ensures.1
    (round_lead_fails c.args.how _ _ _ _ _ c.loop.counter c.args.min c.args.most _ c.args.greedy c.args.x.now c.loop.invariant _ _ _ _ _
    c.loop-test.true c.in_ok-next.ensures.made c.in_ok-next.ensures.weighs c.in_err-lead.ensures).1

pub between-returns-then-most-eq0-clause-denotes : goal.between-returns-then-most-eq0-clause-denotes
between-returns-then-most-eq0-clause-denotes t c = stopped_does _ _ _ _ c.args.min c.args.most c.args.greedy c.args.x.now (omega arith)
    (omega arith) c.in_ok-none.ensures.denotes

pub between-returns-then-min-most-clause-denotes : goal.between-returns-then-min-most-clause-denotes
between-returns-then-min-most-clause-denotes t c = copies_exact _ _ _ _ c.args.min c.args.most c.args.greedy c.args.x.now
    (omega arith) c.in_ok-all.ensures.denotes

pub between-returns-clause-denotes : goal.between-returns-clause-denotes
between-returns-clause-denotes t c = bounds_does _ _ _ _ 0 c.args.most c.args.min c.args.most c.args.greedy c.args.x.now
    (omega arith) refl c.in_ok-any.ensures.denotes

pub captured-returns-then-not-keeps-clause-denotes : goal.captured-returns-then-not-keeps-clause-denotes
captured-returns-then-not-keeps-clause-denotes t c = plain_does _ _ _ _ c.args.index _ c.args.x.now c.in_ok-body.ensures.denotes

pub captured-returns-clause-made : goal.captured-returns-clause-made
captured-returns-clause-made t c =
    capture_made _ _ _ _ _ _ _ _ _ _ _ c.args.index _ _ c.in_ok-start.ensures.added c.in_ok-body-2.ensures.made c.in_ok-end.ensures.added
    (ap (λ (b : Assembly). length b.starts) c.in_ok-body-2.ensures.made.fragment.grows.settings
    ∙ ap (λ (b : Assembly). length b.starts) c.in_ok-start.ensures.added.grows.settings)
    c.in_ok-lead.ensures c.in_ok-lead-2.ensures

pub captured-returns-clause-denotes : goal.captured-returns-clause-denotes
captured-returns-clause-denotes t c =
    capture_does _ _ _ _ _ _ _ _ _ _ _ c.args.index _ _ c.in_ok-start.ensures.added c.in_ok-body-2.ensures.made c.in_ok-end.ensures.added
    (ap (λ (b : Assembly). length b.starts) c.in_ok-body-2.ensures.made.fragment.grows.settings
    ∙ ap (λ (b : Assembly). length b.starts) c.in_ok-start.ensures.added.grows.settings)
    c.in_ok-lead.ensures c.in_ok-lead-2.ensures _ c.args.x.now c.in_ok-body-2.ensures.denotes

pub captured-returns-clause-weighs : goal.captured-returns-clause-weighs
captured-returns-clause-weighs t c = takes_wider _ _ _ _ _ _ _
    (capture_takes _ _ _ _ _ _ _ _ _ _ _ _ _ _ _ _ _ _ _ c.in_ok-start.ensures.added c.in_ok-body-2.ensures.made
    c.in_ok-body-2.ensures.weighs c.in_ok-end.ensures.added c.in_ok-lead.ensures _ c.in_ok-lead-2.ensures)
    (omega (arith, group_kept c.args.how.which c.args.index (sym c.keeps.ensures ∙ c.if-not-keeps.false)))
    (omega (arith, group_kept c.args.how.which c.args.index (sym c.keeps.ensures ∙ c.if-not-keeps.false)))

pub concatenation-returns-then-subs-eq0-clause-denotes : goal.concatenation-returns-then-subs-eq0-clause-denotes
concatenation-returns-then-subs-eq0-clause-denotes t c = does_same _ _ _ _ _ _
    (none_is_concat c.args.subs.now (omega arith)) c.in_ok-none.ensures.denotes

pub concatenation-compile-requires : goal.concatenation-compile-requires
concatenation-compile-requires t c = (
  omega (
    arith,
    c.decreases,
    weight_in_concat c.args.subs.now c.turned_position-begin.result c.index-subs-begin.result
        c.turned_position-begin.ensures.within,
    ap weight c.index-subs-begin.is,
  ),
  c.requires,
)

pub concatenation-compile-requires-in-loop-i : goal.concatenation-compile-requires-in-loop-i
concatenation-compile-requires-in-loop-i t c = (
  omega (
    arith,
    c.decreases,
    weight_in_concat c.args.subs.now c.turned_position-place.result c.index-subs-place.result c.turned_position-place.ensures.within,
    ap weight c.index-subs-place.is,
  ),
  ready_later c.args.how.which _ _ c.loop-i.invariant.made.fragment.grows c.requires,
)

pub concatenation-loop-i-init : goal.concatenation-loop-i-init
concatenation-loop-i-init t c = parts_first c.args.how _ _ _ _ c.index-subs-begin.result c.args.subs.now c.requires (omega arith)
    (turned_part c.args.subs.now _ c.turned_position-begin.result 0 _ _ c.index-subs-begin.is
    c.turned_position-begin.ensures.value c.get_reverse-reverse.ensures)
    c.in_ok-first.ensures.made c.in_ok-first.ensures.denotes c.in_ok-first.ensures.groups c.in_ok-first.ensures.weighs

pub concatenation-loop-i-preserved : goal.concatenation-loop-i-preserved
concatenation-loop-i-preserved t c = parts_then c.args.how _ _ _ _ _ _ _ _ c.loop-i.i c.index-subs-place.result c.args.subs.now c.requires c.loop-i-test.true
    (turned_part c.args.subs.now _ c.turned_position-place.result c.loop-i.i _ _ c.index-subs-place.is
    c.turned_position-place.ensures.value c.get_reverse-reverse.ensures)
    c.loop-i.invariant c.in_ok-next.ensures.made c.in_ok-next.ensures.denotes c.in_ok-next.ensures.groups c.in_ok-lead.ensures
    c.in_ok-next.ensures.weighs

pub concatenation-returns-in_err-first : goal.concatenation-returns-in_err-first
concatenation-returns-in_err-first t c = only_fails _ _ _ _ _ _ _ c.in_err-first.field-0.0 c.from_residual-in_err-first.ensures.1
    (first_part_fails c.args.how _ _ c.index-subs-begin.result c.args.subs.now _ (omega arith)
    (turned_part c.args.subs.now _ c.turned_position-begin.result 0 _ _ c.index-subs-begin.is
    c.turned_position-begin.ensures.value c.get_reverse-reverse.ensures)
    c.in_err-first.ensures.refused c.in_err-first.ensures.passed)

pub concatenation-returns-in_err-next : goal.concatenation-returns-in_err-next
concatenation-returns-in_err-next t c = only_fails _ _ _ _ _ _ _ c.in_err-next.field-0.0 c.from_residual-in_err-next.ensures.1
    (next_part_fails c.args.how _ _ _ _ c.loop-i.i c.args.subs.now c.loop-i.invariant c.index-subs-place.result c.loop-i-test.true
    (turned_part c.args.subs.now _ c.turned_position-place.result c.loop-i.i _ _ c.index-subs-place.is
    c.turned_position-place.ensures.value c.get_reverse-reverse.ensures)
    _ _ c.in_err-next.ensures.refused c.in_err-next.ensures.passed)

pub concatenation-returns-in_err-lead : goal.concatenation-returns-in_err-lead
concatenation-returns-in_err-lead t c = only_fails _ _ _ _ _ _ _ c.in_err-lead.field-0.0 c.from_residual-in_err-lead.ensures.1
    (part_lead_fails c.args.how _ _ _ _ c.loop-i.i c.args.subs.now c.loop-i.invariant c.index-subs-place.result c.loop-i-test.true
    (turned_part c.args.subs.now _ c.turned_position-place.result c.loop-i.i _ _ c.index-subs-place.is
    c.turned_position-place.ensures.value c.get_reverse-reverse.ensures)
    _ _ _ _ _ c.in_ok-next.ensures.made c.in_ok-next.ensures.weighs c.in_err-lead.ensures)

pub concatenation-returns-clause-made : goal.concatenation-returns-clause-made
concatenation-returns-clause-made t c =
    parts_made c.args.how _ _ _ _ c.loop-i.i c.args.subs.now c.loop-i.invariant

pub concatenation-returns-clause-denotes : goal.concatenation-returns-clause-denotes
concatenation-returns-clause-denotes t c =
    parts_does c.args.how _ _ _ _ c.loop-i.i c.args.subs.now c.loop-i.invariant c.loop-i-test.false

pub concatenation-returns-clause-weighs : goal.concatenation-returns-clause-weighs
concatenation-returns-clause-weighs t c = parts_weigh c.args.how _ _ _ _ c.loop-i.i c.args.subs.now c.loop-i.invariant
    c.loop-i-test.false (omega arith)

pub alternatives-returns-then-all_literals-clause-made : goal.alternatives-returns-then-all_literals-clause-made
alternatives-returns-then-all_literals-clause-made = alternatives.returns-then-all_literals-clause-made

pub alternatives-returns-then-all_literals-clause-groups : goal.alternatives-returns-then-all_literals-clause-groups
alternatives-returns-then-all_literals-clause-groups = alternatives.returns-then-all_literals-clause-groups

pub alternatives-returns-then-all_literals-clause-weighs : goal.alternatives-returns-then-all_literals-clause-weighs
alternatives-returns-then-all_literals-clause-weighs = alternatives.returns-then-all_literals-clause-weighs

pub alternatives-returns-in_err-literals : goal.alternatives-returns-in_err-literals
alternatives-returns-in_err-literals = alternatives.returns-in_err-literals

pub alternatives-returns-then-subs-eq1-clause-denotes : goal.alternatives-returns-then-subs-eq1-clause-denotes
alternatives-returns-then-subs-eq1-clause-denotes = alternatives.returns-then-subs-eq1-clause-denotes

pub alternatives-returns-then-subs-eq1-clause-weighs : goal.alternatives-returns-then-subs-eq1-clause-weighs
alternatives-returns-then-subs-eq1-clause-weighs = alternatives.returns-then-subs-eq1-clause-weighs

pub alternatives-returns-in_err-first : goal.alternatives-returns-in_err-first
alternatives-returns-in_err-first = alternatives.returns-in_err-first

pub alternatives-returns-in_err-second : goal.alternatives-returns-in_err-second
alternatives-returns-in_err-second = alternatives.returns-in_err-second

pub alternatives-returns-in_err-union : goal.alternatives-returns-in_err-union
alternatives-returns-in_err-union = alternatives.returns-in_err-union

pub alternatives-returns-in_err-end : goal.alternatives-returns-in_err-end
alternatives-returns-in_err-end = alternatives.returns-in_err-end

pub alternatives-returns-in_err-lead : goal.alternatives-returns-in_err-lead
alternatives-returns-in_err-lead = alternatives.returns-in_err-lead

pub alternatives-returns-in_err-lead-2 : goal.alternatives-returns-in_err-lead-2
alternatives-returns-in_err-lead-2 = alternatives.returns-in_err-lead-2

pub alternatives-returns-in_err-lead-3 : goal.alternatives-returns-in_err-lead-3
alternatives-returns-in_err-lead-3 = alternatives.returns-in_err-lead-3

pub alternatives-returns-in_err-lead-4 : goal.alternatives-returns-in_err-lead-4
alternatives-returns-in_err-lead-4 = alternatives.returns-in_err-lead-4

pub alternatives-loop-i-init : goal.alternatives-loop-i-init
alternatives-loop-i-init = alternatives.loop-i-init

pub alternatives-compile-requires-in-loop-i : goal.alternatives-compile-requires-in-loop-i
alternatives-compile-requires-in-loop-i = alternatives.compile-requires-in-loop-i

pub alternatives-returns-in_err-next : goal.alternatives-returns-in_err-next
alternatives-returns-in_err-next = alternatives.returns-in_err-next

pub alternatives-returns-in_err-lead-5 : goal.alternatives-returns-in_err-lead-5
alternatives-returns-in_err-lead-5 = alternatives.returns-in_err-lead-5

pub alternatives-returns-in_err-lead-6 : goal.alternatives-returns-in_err-lead-6
alternatives-returns-in_err-lead-6 = alternatives.returns-in_err-lead-6

pub alternatives-loop-i-preserved : goal.alternatives-loop-i-preserved
alternatives-loop-i-preserved = alternatives.loop-i-preserved

pub alternatives-returns-clause-made : goal.alternatives-returns-clause-made
alternatives-returns-clause-made = alternatives.returns-clause-made

pub alternatives-returns-clause-denotes : goal.alternatives-returns-clause-denotes
alternatives-returns-clause-denotes = alternatives.returns-clause-denotes

pub alternatives-returns-clause-weighs : goal.alternatives-returns-clause-weighs
alternatives-returns-clause-weighs = alternatives.returns-clause-weighs
