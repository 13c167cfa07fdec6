use Rattle.std.proofs.Common.{◌≡◌, ℕ, ◌<◌, length, Some}
use Rattle.determinize_core.specs.Starts.{start_of, start_by_table}
use Rattle.determinize_core.proofs.start_map.StartByteMap.new.Given as goal

abbrev pub invariant-loop-byte : goal.invariant-loop-byte
invariant-loop-byte g l = record {
  len : length l.map ≡ 256;
  table : (b : ℕ) → b < l.byte → start_by_table l.map b ≡ start_of l.terminator (Some b);
}
