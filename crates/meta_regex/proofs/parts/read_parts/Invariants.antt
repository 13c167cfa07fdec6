use Rattle.std.proofs.Common.{◌≤◌, length}
use Rattle.hir_core.specs.Tree.{Tree}
use Rattle.meta_regex.specs.Parts.{AreDecided, AreParts}
use Rattle.meta_regex.proofs.PartLemmas.{Stands}
use Rattle.meta_regex.proofs.parts.read_parts.Given as goal

abbrev pub invariant-loop-part : goal.invariant-loop-part
invariant-loop-part l = (l.from ≤ l.at) × (l.at ≤ length l.haystack)
    × ((x : Tree) → AreParts l.parts x → AreDecided l.parts → Stands l.left x l.haystack l.from l.at)

abbrev pub decreases-loop-part : goal.decreases-loop-part
decreases-loop-part l = length l.left
