use Rattle.std.proofs.Common.{◌≤◌, length}
use Rattle.hir_core.specs.Tree.{Tree}
use Rattle.literal_search.specs.Searches.{StartsFrom}
use Rattle.meta_regex.specs.Runs.{IsRunOf}
use Rattle.meta_regex.proofs.runs.Run.next_by_characters.Given as goal

abbrev pub invariant-loop : goal.invariant-loop
invariant-loop l = (l.from ≤ l.at) × (l.at ≤ length l.haystack)
    × ((x : Tree) → IsRunOf l.self x → StartsFrom x l.haystack l.from l.at)
