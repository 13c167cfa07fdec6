use Rattle.std.proofs.Common.{◌≡◌, ◌<◌, ℕ, false}
use Rattle.lazy_dfa.specs.ByteTests.{in_halves}
use Rattle.lazy_dfa.specs.AccelBytes.{leaves}
use Rattle.lazy_dfa.specs.Skips.{cell_by}
use Rattle.lazy_dfa.proofs.cache.Cache.are_behind_one.Given as goal

abbrev pub invariant-loop-second : goal.invariant-loop-second
invariant-loop-second l = (b : ℕ) → b < l.second → in_halves l.tables.low l.tables.high b ≡ false →
    (leaves l.leaving b ≡ false) × (cell_by l.self.cells l.self.classes l.next b ≡ l.id)
