use Rattle.std.proofs.Common.{◌+◌, ◌*◌, ◌≤◌, IsTrue, All, take}
use Rattle.hir_core.specs.Facts.{is_utf8_tree, height}
use Rattle.pattern_search.specs.Texts.{AllMean}
use Rattle.pattern_search.proofs.TextLemmas.{read_texts}
use Rattle.pattern_search.proofs.parsing.parse_all.Given as goal

-- the patterns so far have their trees
abbrev pub invariant-loop-number : goal.invariant-loop-number
invariant-loop-number l =
    AllMean l.config (take l.number (read_texts l.texts)) l.trees.items
    × (IsTrue l.config.utf8 → All (λ x. IsTrue (is_utf8_tree x)) l.trees.items)
    × All (λ x. height x ≤ 5 * l.config.nest_limit + 5) l.trees.items
