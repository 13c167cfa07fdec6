use Rattle.std.proofs.Common.{◌+◌, ◌-◌, ◌≤◌, length}
use Rattle.hir_core.specs.Tree.{Tree}
use Rattle.hir_core.specs.Means.{Looks}
use Rattle.hir_core.specs.PreferredEnds.{preferred_ends}
use Rattle.meta_regex.specs.CharRounds.{AreCharsOf, RoundsLead}
use Rattle.meta_regex.proofs.char_rounds.rounds_from.Given as goal

-- so many rounds lead here
abbrev pub invariant-loop-end : goal.invariant-loop-end
invariant-loop-end l = (l.start + l.count ≤ l.at) × (l.at ≤ length l.haystack)
    × ((x : Tree) → AreCharsOf l.table x → (looks : Looks) → RoundsLead (preferred_ends looks l.haystack x) l.count l.start l.at)

abbrev pub decreases-loop-end : goal.decreases-loop-end
decreases-loop-end l = length l.haystack - l.at
