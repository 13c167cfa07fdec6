use Rattle.std.proofs.Common.{◌≡◌, ◌<◌, ℕ, false, true}
use Rattle.lazy_dfa.specs.ByteTests.{in_halves}
use Rattle.lazy_dfa.specs.Ids.{tag}
use Rattle.lazy_dfa.specs.AccelBytes.{leaves}
use Rattle.lazy_dfa.specs.Skips.{cell_by}
use Rattle.lazy_dfa.proofs.cache.Cache.are_behind.Given as goal

abbrev pub invariant-loop-byte : goal.invariant-loop-byte
invariant-loop-byte l = (b second : ℕ) → b < l.byte → second < 256 → leaves l.leaving b ≡ true →
    in_halves l.tables.low l.tables.high second ≡ false →
    (leaves l.leaving second ≡ false) × (cell_by l.self.cells l.self.classes l.id b < tag)
    × (cell_by l.self.cells l.self.classes (cell_by l.self.cells l.self.classes l.id b) second ≡ l.id)
