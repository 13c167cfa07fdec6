use Rattle.std.proofs.Common.{◌≡◌, ◌≤◌}
use Rattle.std.specs.List.{All}
use Rattle.search_core.specs.Marks.{recorded}
use Rattle.search_core.specs.ByteSets.{ranges_from}
use Rattle.search_core.proofs.class_set.ByteClassSet.add_set.Given as goal

abbrev pub invariant-loop-start : goal.invariant-loop-start
invariant-loop-start l = record {
  left : recorded l.self l.start-iterator ≡ recorded l.fn.self (ranges_from l.set 0);
  forward : All (λ r. r.0 ≤ r.1) l.start-iterator;
}
