use Rattle.std.proofs.Common.{◌≡◌, Bor, List, ℕ, map, take}
use Rattle.hir_core.specs.Tree.{literal}
use Rattle.line_search.proofs.fewer_words.words_of.Given as goal

abbrev pub invariant-loop-tree : goal.invariant-loop-tree
invariant-loop-tree l = take l.tree-index l.trees ≡ map (λ (w : Bor (List ℕ)). literal w.now) l.words.items
