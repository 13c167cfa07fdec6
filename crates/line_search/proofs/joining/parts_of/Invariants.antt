use Rattle.std.proofs.Common.{◌≡◌, ◌++◌, length}
use Rattle.std.specs.Vec.Iter.{into_iter_items, into_iter_len}
use Rattle.hir_core.specs.Tree.{alternation}
use Rattle.line_search.specs.Joined.{parts_of}
use Rattle.line_search.proofs.joining.parts_of.Given as goal

abbrev pub invariant-loop-tree : goal.invariant-loop-tree
invariant-loop-tree l = (l.yielded ++ into_iter_items l.tree-iterator ≡ into_iter_items l.initial.tree-iterator)
    × (l.parts.items ≡ parts_of (alternation l.yielded))
    × (into_iter_len l.tree-iterator ≡ length (into_iter_items l.tree-iterator))
