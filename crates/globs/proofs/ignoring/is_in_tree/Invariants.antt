use Rattle.std.proofs.Common.{◌≡◌, drop, map}
use Rattle.std.specs.List.{list_any}
use Rattle.globs.specs.Ignoring.{level_of}
use Rattle.globs.proofs.ignoring.is_in_tree.Given as goal

abbrev pub invariant-loop-level : goal.invariant-loop-level
invariant-loop-level l = list_any (λ r. r.is_root) (map level_of (drop l.level-index l.levels)) ≡ list_any (λ r. r.is_root) (map level_of l.levels)
