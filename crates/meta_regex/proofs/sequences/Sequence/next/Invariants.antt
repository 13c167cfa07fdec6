use Rattle.std.proofs.Common.{◌≤◌, ◌-◌, length}
use Rattle.std.specs.Prelude.{IfSome}
use Rattle.hir_core.specs.Tree.{Tree}
use Rattle.literal_search.specs.Searches.{IsBegunBy, StartsFrom}
use Rattle.meta_regex.specs.Sequences.{IsSequenceOf}
use Rattle.meta_regex.proofs.sequences.Sequence.next.Given as goal

abbrev pub invariant-loop-literals : goal.invariant-loop-literals
invariant-loop-literals l = (l.from ≤ l.at) × (l.at ≤ length l.haystack)
    × ((x : Tree) → IsSequenceOf l.self x → IfSome l.literals (λ f. IsBegunBy f.now x) → StartsFrom x l.haystack l.from l.at)

abbrev pub decreases-loop-literals : goal.decreases-loop-literals
decreases-loop-literals l = length l.haystack - l.at
