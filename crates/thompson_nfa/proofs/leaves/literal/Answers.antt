use Rattle.std.proofs.Common.{◌∙◌, length, get_or, arith, ap}
use Rattle.nfa_core.specs.BuilderStates.{Assembly}
use Rattle.thompson_nfa.specs.Turned.{turned_position}
use Rattle.thompson_nfa.proofs.Fragments.JoinLemmas.{join_made, join_does, does_first, does_all, does_same}
use Rattle.thompson_nfa.proofs.Fragments.TurnLemmas.{literal_joins, literal_begun, literal_ended, none_is_literal}
use Rattle.thompson_nfa.proofs.Fragments.TakeLemmas.{takes_wider, join_takes}
use Rattle.thompson_nfa.proofs.leaves.literal.Goals as goal

pub loop-i-init : goal.loop-i-init
loop-i-init c = (
  c.in_ok-first.ensures.made,
  c.in_ok-first.ensures.groups,
  omega arith,
  does_first _ _ _ _ _ _ _ (literal_begun c.args.builder.now.reverse c.args.bytes.now _ 0 (omega arith)
      (ap (λ k. get_or c.args.bytes.now k 0) (c.turned_position.ensures.value
      ∙ ap (λ back. turned_position back 0 (length c.args.bytes.now)) c.get_reverse-reverse.ensures))) c.in_ok-first.ensures.denotes,
  takes_wider _ _ _ _ _ _ _ c.in_ok-first.ensures.weighs (omega arith) (omega arith),
)

pub loop-i-preserved : goal.loop-i-preserved
loop-i-preserved c = (
  join_made _ _ _ _ _ _ _ _ _ _ c.loop-i.invariant.0 c.in_ok-next.ensures.made c.in_ok-lead.ensures,
  ap (λ (b : Assembly). b.groups) c.in_ok-lead.ensures.settings ∙ c.in_ok-next.ensures.groups ∙ c.loop-i.invariant.1,
  omega arith,
  join_does _ _ _ _ _ _ _ _ _ _ c.loop-i.invariant.0 c.in_ok-next.ensures.made c.in_ok-lead.ensures _ _ _ _
      (literal_joins c.args.builder.now.reverse c.args.bytes.now c.loop-i.i _ 0 (omega arith)
      (ap (λ k. get_or c.args.bytes.now k 0) (c.turned_position-in-loop-i.ensures.value
      ∙ ap (λ back. turned_position back c.loop-i.i (length c.args.bytes.now)) c.get_reverse-reverse.ensures))) c.loop-i.invariant.3
      c.in_ok-next.ensures.denotes,
  takes_wider _ _ _ _ _ _ _ (join_takes _ _ _ _ _ _ _ _ _ _ _ c.loop-i.invariant.4 c.loop-i.invariant.0.fragment.end_there
      c.in_ok-next.ensures.made c.in_ok-next.ensures.weighs _ c.in_ok-lead.ensures) (omega arith) (omega arith),
)

pub returns-then-bytes-eq0-clause-denotes : goal.returns-then-bytes-eq0-clause-denotes
returns-then-bytes-eq0-clause-denotes c = does_same _ _ _ _ _ _ (none_is_literal c.args.bytes.now (omega arith))
    c.in_ok-none.ensures.denotes

pub returns-clause-denotes : goal.returns-clause-denotes
returns-clause-denotes c = does_all _ _ _ _ _ _ (literal_ended c.args.builder.now.reverse c.loop-i.i c.args.bytes.now (omega arith))
    c.loop-i.invariant.3
