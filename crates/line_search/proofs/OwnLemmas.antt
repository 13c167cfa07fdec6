-- What a finder knows of its searches of lines, also after one of them.
use Rattle.std.proofs.Common.{◌≡◌, ℕ, Bool, true, List}
use Rattle.hir_core.specs.Facts.{LoopsRead}
use Rattle.regex_pair.specs.Pairs.{Pair}
use Rattle.line_search.specs.BoundedTrees.{IsTreeOf}
use Rattle.line_search.specs.declared.patterns.PatternOptions.{PatternOptions}
use Rattle.line_search.specs.Searchers.{IsSearcherOf}

-- what a finder knows of the automata that search lines
abbrev pub IsOwn : PatternOptions → List (List ℕ) → Bool → Pair → Type 0
IsOwn how texts spans p = (it : IsSearcherOf how texts p) × (spans ≡ true → IsTreeOf how texts it.tree × LoopsRead it.tree)
