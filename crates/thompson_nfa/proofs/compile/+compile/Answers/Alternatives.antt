-- The goals of alternations.
use Rattle.std.proofs.Common.{◌∙◌, ap, sym, arith}
use Rattle.hir_core.specs.Weight.{weight}
use Rattle.thompson_nfa.specs.ByteRoom.{at_least, at_most}
use Rattle.thompson_nfa.proofs.Steps.ErrorLemmas.{only_fails}
use Rattle.thompson_nfa.proofs.Steps.GrowLemmas.{ready_later}
use Rattle.thompson_nfa.proofs.Fragments.PartBytes.{bytes_of_literals}
use Rattle.thompson_nfa.proofs.Fragments.TakeLemmas.{takes_wider}
use Rattle.thompson_nfa.proofs.Fragments.ConcatLemmas.{weight_in_alternation}
use Rattle.thompson_nfa.proofs.Fragments.AlternativeLemmas.{cases_open, cases_then, cases_made, cases_does, single_does, cases_weigh}
use Rattle.thompson_nfa.proofs.Fragments.AlternativeLemmas.{single_bytes, first_fails, second_fails, union_fails, end_fails}
use Rattle.thompson_nfa.proofs.Fragments.AlternativeLemmas.{first_lead_fails, second_lead_fails, third_lead_fails, fourth_lead_fails}
use Rattle.thompson_nfa.proofs.Fragments.AlternativeLemmas.{next_fails, next_lead_fails, next_end_fails}
use Rattle.thompson_nfa.proofs.LiteralTries.LiteralLemmas.{literals_made, literals_noted, literals_refused}
use Rattle.thompson_nfa.proofs.compile.+compile.Goals as goal

pub returns-then-all_literals-clause-made : goal.alternatives-returns-then-all_literals-clause-made
returns-then-all_literals-clause-made t c =
    literals_made c.args.how.shrink _ _ _ _ c.args.subs.now (sym c.all_literals.ensures
    ∙ c.if-all_literals.true) c.in_ok-literals.ensures.made

pub returns-then-all_literals-clause-groups : goal.alternatives-returns-then-all_literals-clause-groups
returns-then-all_literals-clause-groups t c =
    literals_noted c.args.how.which _ c.args.subs.now _ _ (sym c.all_literals.ensures
    ∙ c.if-all_literals.true) c.in_ok-literals.ensures.groups

pub returns-then-all_literals-clause-weighs : goal.alternatives-returns-then-all_literals-clause-weighs
returns-then-all_literals-clause-weighs t c = takes_wider _ _ _ _ _ _ _ c.in_ok-literals.ensures.weighs
    (omega (
      arith,
      bytes_of_literals at_least c.args.how.which c.args.subs.now (sym c.all_literals.ensures ∙ c.if-all_literals.true),
    ))
    (omega (
      arith,
      bytes_of_literals (at_most c.args.how.shrink) c.args.how.which c.args.subs.now (sym c.all_literals.ensures ∙ c.if-all_literals.true),
    ))

pub returns-in_err-literals : goal.alternatives-returns-in_err-literals
returns-in_err-literals t c = only_fails _ _ _ _ _ _ _ c.in_err-literals.field-0.0 c.from_residual-in_err-literals.ensures.1 (
  literals_refused c.args.how.which c.args.how.shrink _ _ c.args.subs.now _ (sym c.all_literals.ensures ∙ c.if-all_literals.true)
      c.in_err-literals.ensures.refused,
  omega (
    arith,
    bytes_of_literals (at_most c.args.how.shrink) c.args.how.which c.args.subs.now (sym c.all_literals.ensures ∙ c.if-all_literals.true),
    c.in_err-literals.ensures.passed,
  ),
)

pub returns-then-subs-eq1-clause-denotes : goal.alternatives-returns-then-subs-eq1-clause-denotes
returns-then-subs-eq1-clause-denotes t c =
    single_does _ _ _ _ c.index-subs-0.result c.args.subs.now (omega arith) c.index-subs-0.is c.in_ok-one.ensures.denotes

pub returns-then-subs-eq1-clause-weighs : goal.alternatives-returns-then-subs-eq1-clause-weighs
returns-then-subs-eq1-clause-weighs t c = takes_wider _ _ _ _ _ _ _ c.in_ok-one.ensures.weighs
    (omega (arith, single_bytes at_least c.args.how.which c.index-subs-0.result c.args.subs.now (omega arith) c.index-subs-0.is))
    (omega (
      arith,
      single_bytes (at_most c.args.how.shrink) c.args.how.which c.index-subs-0.result c.args.subs.now (omega arith) c.index-subs-0.is,
    ))

pub returns-in_err-first : goal.alternatives-returns-in_err-first
returns-in_err-first t c = only_fails _ _ _ _ _ _ _ c.in_err-first.field-0.0 c.from_residual-in_err-first.ensures.1
    (first_fails c.args.how _ _ c.index-subs-0-2.result c.args.subs.now _ (omega arith)
    (sym c.all_literals.ensures ∙ c.if-all_literals.false) c.index-subs-0-2.is c.in_err-first.ensures.refused c.in_err-first.ensures.passed)

pub returns-in_err-second : goal.alternatives-returns-in_err-second
returns-in_err-second t c = only_fails _ _ _ _ _ _ _ c.in_err-second.field-0.0 c.from_residual-in_err-second.ensures.1
    (second_fails c.args.how _ _ _ _ c.index-subs-0-2.result c.index-subs-1.result c.args.subs.now (omega arith)
    (sym c.all_literals.ensures ∙ c.if-all_literals.false) c.index-subs-0-2.is c.index-subs-1.is c.in_ok-first.ensures.made
    c.in_ok-first.ensures.weighs _ _ c.in_err-second.ensures.refused c.in_err-second.ensures.passed)

pub returns-in_err-union : goal.alternatives-returns-in_err-union
returns-in_err-union t c = only_fails _ _ _ _ _ _ _ c.in_err-union.field-0.0 c.from_residual-in_err-union.ensures.1
    (union_fails c.args.how _ _ _ _ c.index-subs-0-2.result c.index-subs-1.result c.args.subs.now (omega arith)
    (sym c.all_literals.ensures ∙ c.if-all_literals.false) c.index-subs-0-2.is c.index-subs-1.is c.in_ok-first.ensures.made
    c.in_ok-first.ensures.weighs _ _ _ c.in_ok-second.ensures.made c.in_ok-second.ensures.weighs
    _ _ c.in_err-union.ensures)

pub returns-in_err-end : goal.alternatives-returns-in_err-end
returns-in_err-end t c = only_fails _ _ _ _ _ _ _ c.in_err-end.field-0.0 c.from_residual-in_err-end.ensures.1
    (end_fails c.args.how _ _ _ _ c.index-subs-0-2.result c.index-subs-1.result c.args.subs.now (omega arith)
    (sym c.all_literals.ensures ∙ c.if-all_literals.false) c.index-subs-0-2.is c.index-subs-1.is c.in_ok-first.ensures.made
    c.in_ok-first.ensures.weighs _ _ _ c.in_ok-second.ensures.made c.in_ok-second.ensures.weighs
    _ _ c.in_ok-union.ensures _ _ c.in_err-end.ensures)

pub returns-in_err-lead : goal.alternatives-returns-in_err-lead
returns-in_err-lead t c = only_fails _ _ _ _ _ _ _ c.in_err-lead.field-0.0 c.from_residual-in_err-lead.ensures.1
    (first_lead_fails c.args.how _ _ _ _ c.index-subs-0-2.result c.index-subs-1.result c.args.subs.now (omega arith)
    (sym c.all_literals.ensures ∙ c.if-all_literals.false) c.index-subs-0-2.is c.index-subs-1.is c.in_ok-first.ensures.made
    c.in_ok-first.ensures.weighs _ _ _ c.in_ok-second.ensures.made c.in_ok-second.ensures.weighs
    _ _ c.in_ok-union.ensures _ _ c.in_ok-end.ensures _ _ c.in_err-lead.ensures)

pub returns-in_err-lead-2 : goal.alternatives-returns-in_err-lead-2
returns-in_err-lead-2 t c = only_fails _ _ _ _ _ _ _ c.in_err-lead-2.field-0.0 c.from_residual-in_err-lead-2.ensures.1
    (second_lead_fails c.args.how _ _ _ _ c.index-subs-0-2.result c.index-subs-1.result c.args.subs.now (omega arith)
    (sym c.all_literals.ensures ∙ c.if-all_literals.false) c.index-subs-0-2.is c.index-subs-1.is c.in_ok-first.ensures.made
    c.in_ok-first.ensures.weighs _ _ _ c.in_ok-second.ensures.made c.in_ok-second.ensures.weighs
    _ _ c.in_ok-union.ensures _ _ c.in_ok-end.ensures _ c.in_ok-lead.ensures _ _ c.in_err-lead-2.ensures)

pub returns-in_err-lead-3 : goal.alternatives-returns-in_err-lead-3
returns-in_err-lead-3 t c = only_fails _ _ _ _ _ _ _ c.in_err-lead-3.field-0.0 c.from_residual-in_err-lead-3.ensures.1
    (third_lead_fails c.args.how _ _ _ _ c.index-subs-0-2.result c.index-subs-1.result c.args.subs.now (omega arith)
    (sym c.all_literals.ensures ∙ c.if-all_literals.false) c.index-subs-0-2.is c.index-subs-1.is c.in_ok-first.ensures.made
    c.in_ok-first.ensures.weighs _ _ _ c.in_ok-second.ensures.made c.in_ok-second.ensures.weighs
    _ _ c.in_ok-union.ensures _ _ c.in_ok-end.ensures _ c.in_ok-lead.ensures _ c.in_ok-lead-2.ensures _ _
    c.in_err-lead-3.ensures)

pub returns-in_err-lead-4 : goal.alternatives-returns-in_err-lead-4
returns-in_err-lead-4 t c = only_fails _ _ _ _ _ _ _ c.in_err-lead-4.field-0.0 c.from_residual-in_err-lead-4.ensures.1
    (fourth_lead_fails c.args.how _ _ _ _ c.index-subs-0-2.result c.index-subs-1.result c.args.subs.now (omega arith)
    (sym c.all_literals.ensures ∙ c.if-all_literals.false) c.index-subs-0-2.is c.index-subs-1.is c.in_ok-first.ensures.made
    c.in_ok-first.ensures.weighs _ _ _ c.in_ok-second.ensures.made c.in_ok-second.ensures.weighs
    _ _ c.in_ok-union.ensures _ _ c.in_ok-end.ensures _ c.in_ok-lead.ensures _ c.in_ok-lead-2.ensures
    _ c.in_ok-lead-3.ensures _ _ c.in_err-lead-4.ensures)

pub loop-i-init : goal.alternatives-loop-i-init
loop-i-init t c = cases_open c.args.how _ _ _ _ c.index-subs-0-2.result c.index-subs-1.result c.args.subs.now (omega arith)
    (sym c.all_literals.ensures ∙ c.if-all_literals.false) c.index-subs-0-2.is c.index-subs-1.is c.in_ok-first.ensures.made
    c.in_ok-first.ensures.weighs _ _ _ c.in_ok-second.ensures.made c.in_ok-second.ensures.weighs
    _ _ c.in_ok-union.ensures _ _ c.in_ok-end.ensures _ c.in_ok-lead.ensures _ c.in_ok-lead-2.ensures
    _ c.in_ok-lead-3.ensures _ c.in_ok-lead-4.ensures c.in_ok-first.ensures.denotes c.in_ok-second.ensures.denotes
    c.in_ok-first.ensures.groups c.in_ok-second.ensures.groups

pub compile-requires-in-loop-i : goal.alternatives-compile-requires-in-loop-i
compile-requires-in-loop-i t c = (
  omega (
    arith,
    c.decreases,
    weight_in_alternation c.args.subs.now c.loop-i.i c.index-subs-i.result c.loop-i-test.true,
    ap weight c.index-subs-i.is,
  ),
  ready_later c.args.how.which _ _ c.loop-i.invariant.branches.progress.partly.grows c.requires,
)

pub returns-in_err-next : goal.alternatives-returns-in_err-next
returns-in_err-next t c = only_fails _ _ _ _ _ _ _ c.in_err-next.field-0.0 c.from_residual-in_err-next.ensures.1
    (next_fails c.args.how _ _ _ _ c.loop-i.i c.args.subs.now c.loop-i.invariant (omega arith)
    (sym c.all_literals.ensures ∙ c.if-all_literals.false) c.index-subs-i.result c.loop-i-test.true c.index-subs-i.is _ _
    c.in_err-next.ensures.refused c.in_err-next.ensures.passed)

pub returns-in_err-lead-5 : goal.alternatives-returns-in_err-lead-5
returns-in_err-lead-5 t c = only_fails _ _ _ _ _ _ _ c.in_err-lead-5.field-0.0 c.from_residual-in_err-lead-5.ensures.1
    (next_lead_fails c.args.how _ _ _ _ c.loop-i.i c.args.subs.now c.loop-i.invariant (omega arith)
    (sym c.all_literals.ensures ∙ c.if-all_literals.false) c.index-subs-i.result c.loop-i-test.true c.index-subs-i.is _ _ _
    c.in_ok-next.ensures.made c.in_ok-next.ensures.weighs _ _ c.in_err-lead-5.ensures)

pub returns-in_err-lead-6 : goal.alternatives-returns-in_err-lead-6
returns-in_err-lead-6 t c = only_fails _ _ _ _ _ _ _ c.in_err-lead-6.field-0.0 c.from_residual-in_err-lead-6.ensures.1
    (next_end_fails c.args.how _ _ _ _ c.loop-i.i c.args.subs.now c.loop-i.invariant (omega arith)
    (sym c.all_literals.ensures ∙ c.if-all_literals.false) c.index-subs-i.result c.loop-i-test.true c.index-subs-i.is _ _ _
    c.in_ok-next.ensures.made c.in_ok-next.ensures.weighs _ _ _ c.in_ok-lead-5.ensures c.in_err-lead-6.ensures)

pub loop-i-preserved : goal.alternatives-loop-i-preserved
loop-i-preserved t c =
    cases_then c.args.how _ _ _ _ c.loop-i.i c.args.subs.now c.loop-i.invariant _ _ _ _ _ c.index-subs-i.result c.loop-i-test.true
    c.index-subs-i.is c.in_ok-next.ensures.made c.in_ok-next.ensures.denotes
    c.in_ok-next.ensures.groups c.in_ok-lead-5.ensures c.in_ok-lead-6.ensures c.in_ok-next.ensures.weighs

pub returns-clause-made : goal.alternatives-returns-clause-made
returns-clause-made t c =
    cases_made c.args.how _ _ _ _ c.loop-i.i c.args.subs.now c.loop-i.invariant

pub returns-clause-denotes : goal.alternatives-returns-clause-denotes
returns-clause-denotes t c =
    cases_does c.args.how _ _ _ _ c.loop-i.i c.args.subs.now c.loop-i.invariant c.loop-i-test.false

pub returns-clause-weighs : goal.alternatives-returns-clause-weighs
returns-clause-weighs t c = cases_weigh c.args.how _ _ _ _ c.loop-i.i c.args.subs.now c.loop-i.invariant
    c.loop-i-test.false (omega arith) (sym c.all_literals.ensures ∙ c.if-all_literals.false)
