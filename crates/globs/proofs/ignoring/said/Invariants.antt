use Rattle.std.proofs.Common.{◌≡◌, drop, map, None}
use Rattle.globs.specs.Ignoring.{level_of, said}
use Rattle.globs.proofs.ignoring.said.Given as goal

abbrev pub invariant-loop-level : goal.invariant-loop-level
invariant-loop-level l =
    said l.kind l.known (map level_of (drop l.level-index l.levels)) l.is_folder l.path ≡ said l.kind None (map level_of l.levels) l.is_folder l.path
