use Rattle.std.proofs.Common.{arith}
use Rattle.thompson_nfa.proofs.Steps.ErrorLemmas.{handed}
use Rattle.thompson_nfa.proofs.WholePatterns.UnionLemmas.{further_none, pattern_refused, union_refused, further_next, further_weighs}
use Rattle.thompson_nfa.proofs.WholePatterns.UnionLemmas.{pattern_passed, union_passed}
use Rattle.thompson_nfa.proofs.patterns.compile_further.Goals as goal

pub loop-expr-init : goal.loop-expr-init
loop-expr-init c = further_none c.args.how c.args.union c.args.builder.now c.requires.kind c.requires.way

pub returns-in_err-start-clause-refused : goal.returns-in_err-start-clause-refused
returns-in_err-start-clause-refused c = handed _ _ c.in_err-start.field-0.0 c.from_residual.ensures.1
    (pattern_refused c.args.how c.args.union c.args.builder.now c.loop-expr.builder c.compile_pattern.new.builder c.args.exprs.now
    c.loop-expr.expr-index c.expr-item.result (omega arith) c.expr-item.is c.requires.there c.loop-expr.invariant _
    c.in_err-start.ensures.refused)

pub returns-in_err-lead-clause-refused : goal.returns-in_err-lead-clause-refused
returns-in_err-lead-clause-refused c = handed _ _ c.in_err-lead.field-0.0 c.from_residual-in_err-lead.ensures.1
    (union_refused c.args.how c.args.union c.args.builder.now c.loop-expr.builder c.compile_pattern.new.builder c.args.exprs.now
    c.loop-expr.expr-index c.expr-item.result (omega arith) c.expr-item.is c.requires.there c.loop-expr.invariant _ _ _
    c.in_ok-start.ensures.has c.in_ok-start.ensures.weighs c.in_err-lead.ensures.stays)

pub loop-expr-preserved : goal.loop-expr-preserved
loop-expr-preserved c = further_next c.args.how c.args.union c.args.builder.now c.loop-expr.builder c.compile_pattern.new.builder
    c.args.exprs.now c.loop-expr.expr-index c.expr-item.result (omega arith) c.expr-item.is c.requires.there c.loop-expr.invariant _ _
    c.in_ok-start.ensures.has c.in_ok-start.ensures.weighs c.in_ok-lead.ensures

pub returns-in_err-start-clause-passed : goal.returns-in_err-start-clause-passed
returns-in_err-start-clause-passed c = handed _ _ c.in_err-start.field-0.0 c.from_residual.ensures.1
    (pattern_passed c.args.how c.args.union c.args.builder.now c.loop-expr.builder c.compile_pattern.new.builder c.args.exprs.now
    c.loop-expr.expr-index c.expr-item.result (omega arith) c.expr-item.is c.requires.there c.loop-expr.invariant _
    c.in_err-start.ensures.passed)

pub returns-in_err-lead-clause-passed : goal.returns-in_err-lead-clause-passed
returns-in_err-lead-clause-passed c = handed _ _ c.in_err-lead.field-0.0 c.from_residual-in_err-lead.ensures.1
    (union_passed c.args.how c.args.union c.args.builder.now c.loop-expr.builder c.compile_pattern.new.builder c.args.exprs.now
    c.loop-expr.expr-index c.expr-item.result (omega arith) c.expr-item.is c.requires.there c.loop-expr.invariant _
    c.in_ok-start.ensures.weighs c.in_err-lead.ensures.stays.passed)

pub returns-clause-weighs : goal.returns-clause-weighs
returns-clause-weighs c = further_weighs c.args.how c.args.union c.args.builder.now c.loop-expr.builder c.args.exprs.now
    c.loop-expr.expr-index (omega arith) c.loop-expr.invariant
