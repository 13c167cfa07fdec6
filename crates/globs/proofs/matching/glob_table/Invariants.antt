use Rattle.std.proofs.Common.{◌≡◌, ◌+◌, length, drop}
use Rattle.globs.specs.Matching.{at_ends, matches, sections_of}
use Rattle.globs.proofs.matching.glob_table.Given as goal

abbrev pub invariant-loop-i : goal.invariant-loop-i
invariant-loop-i l = record {
  len : length l.table.items ≡ length l.name + 1;
  table : l.table.items ≡ at_ends (matches (sections_of (drop l.i l.sections))) l.name;
}
