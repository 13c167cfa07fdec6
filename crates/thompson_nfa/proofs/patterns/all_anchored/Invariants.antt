use Rattle.std.proofs.Common.{◌≡◌, drop}
use Rattle.std.specs.List.{list_all}
use Rattle.thompson_nfa.specs.Compilations.{is_anchored_tree}
use Rattle.thompson_nfa.proofs.patterns.all_anchored.Given as goal

abbrev pub invariant-loop-expr : goal.invariant-loop-expr
invariant-loop-expr l = list_all (is_anchored_tree l.reverse) l.exprs ≡ list_all (is_anchored_tree l.reverse) (drop l.expr-index l.exprs)
