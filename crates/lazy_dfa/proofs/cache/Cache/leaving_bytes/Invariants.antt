use Rattle.std.proofs.Common.{◌≡◌, ℕ, ◌<◌, false, length}
use Rattle.search_core.specs.ByteSets.{has}
use Rattle.lazy_dfa.specs.Skips.{cell_by}
use Rattle.lazy_dfa.proofs.cache.Cache.leaving_bytes.Given as goal

abbrev pub invariant-loop-byte : goal.invariant-loop-byte
invariant-loop-byte l = record {
  len : length l.set ≡ 256;
  stay : (b : ℕ) → b < l.byte → has l.set b ≡ false → cell_by l.self.cells l.self.classes l.id b ≡ l.id;
}
