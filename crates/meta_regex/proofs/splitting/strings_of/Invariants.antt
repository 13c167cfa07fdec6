use Rattle.std.proofs.Common.{◌≡◌, ◌++◌, map, drop}
use Rattle.hir_core.specs.Tree.{literal}
use Rattle.meta_regex.proofs.splitting.strings_of.Given as goal

abbrev pub invariant-loop-tree : goal.invariant-loop-tree
invariant-loop-tree l = map (λ t. literal t.items) l.texts.items ++ drop l.tree-index l.trees ≡ l.trees
