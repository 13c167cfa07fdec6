use Rattle.std.proofs.Common.{◌≡◌, false, List, ◌++◌}
use Rattle.hir_core.specs.Tree.{Tree, alternation}
use Rattle.hir_core.specs.Facts.{is_never, maximum_len}
use Rattle.hir_core.specs.Backward.{met_backward}
use Rattle.hir_core.proofs.facts.alternation_maximum_len.Given as goal

-- whatever parts the loop began with, it has come to those and what it met before them
abbrev pub invariant-loop-sub : goal.invariant-loop-sub
invariant-loop-sub l = (parts : List Tree) → l.initial.longest ≡ maximum_len (alternation parts) → is_never (alternation parts) ≡ false →
    (l.longest ≡ maximum_len (alternation (met_backward l.yielded ++ parts))) ×
    (is_never (alternation (met_backward l.yielded ++ parts)) ≡ false)
