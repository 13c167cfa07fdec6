use Rattle.std.proofs.Common.{take}
use Rattle.thompson_nfa.proofs.WholePatterns.UnionLemmas.{IsFurther}
use Rattle.thompson_nfa.proofs.patterns.compile_further.Given as goal

abbrev pub invariant-loop-expr : goal.invariant-loop-expr
invariant-loop-expr l = IsFurther l.how l.union l.fn.builder l.builder (take l.expr-index l.exprs)
