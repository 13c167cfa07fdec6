use Rattle.std.proofs.Common.{◌≡◌, ◌<◌, ℕ, List, Some, map, drop, slice_get}
use Rattle.group_finder.specs.Patterns.{IsPattern}
use Rattle.captures.proofs.PatternLemmas.{AreGroupsWith}
use Rattle.captures.proofs.groups.all_groups_of.Given as goal

-- what is made so far begins what is to be made, and so many are patterns
abbrev pub invariant-loop-text : goal.invariant-loop-text
invariant-loop-text l = AreGroupsWith l.config (map (λ t. t.now) l.texts) (map (λ t. t.now) (drop l.text-index l.texts)) l.groups.items ×
    ((k : ℕ) (t : List ℕ) → k < l.text-index → slice_get (map (λ t. t.now) l.texts) k ≡ Some t → IsPattern l.config t)
