use Rattle.std.proofs.Common.{◌≡◌, Bor, List, ℕ, map, take}
use Rattle.hir_core.specs.Tree.{literal}
use Rattle.line_search.proofs.fewer_words.tree_of.Given as goal

abbrev pub invariant-loop-word : goal.invariant-loop-word
invariant-loop-word l = l.parts.items ≡ map (λ (w : Bor (List ℕ)). literal w.now) (take l.word-index l.words)
