-- What a cache stores so that searches can skip bytes.
use Rattle.std.specs.Prelude.{◌≡◌, ℕ, ◌+◌, ◌<◌, ◌≤◌, true, false, Bool, List, Some, IfSome, slice_index_or}
use Rattle.lazy_dfa.specs.declared.accel.half_tables.HalfTables.{HalfTables}
use Rattle.lazy_dfa.specs.declared.accel.accel_bytes.Leaving.{Leaving}
use Rattle.lazy_dfa.specs.declared.accel.skip.Skip.{Skip}
use Rattle.lazy_dfa.specs.ByteTests.{in_halves}
use Rattle.lazy_dfa.specs.Dfas.{class_of}
use Rattle.lazy_dfa.specs.Ids.{tag}
use Rattle.lazy_dfa.specs.AccelBytes.{leaves}

-- the ID to which a byte leads from an untagged ID, by these cells
abbrev pub cell_by : List ℕ → List ℕ → ℕ → ℕ → ℕ
cell_by cells classes id byte = slice_index_or cells (id + class_of classes (Some byte)) 0

-- each byte that doesn't leave leads from the ID back to it
abbrev pub IsLeft : List ℕ → List ℕ → ℕ → Leaving → Type 0
IsLeft cells classes id leaving = (byte : ℕ) → byte < 256 → leaves leaving byte ≡ false → cell_by cells classes id byte ≡ id

-- If a byte leaves an ID and the byte after it fails the test of these tables, the second byte doesn't leave. Both
-- together lead back to the ID, by way of an ID without a tag.
abbrev pub IsAfterByte : List ℕ → List ℕ → ℕ → Leaving → HalfTables → Type 0
IsAfterByte cells classes id leaving tables =
    (byte second : ℕ) → byte < 256 → second < 256 → leaves leaving byte ≡ true → in_halves tables.low tables.high second ≡ false →
    (leaves leaving second ≡ false) × (cell_by cells classes id byte < tag) ×
    (cell_by cells classes (cell_by cells classes id byte) second ≡ id)

-- the stored tests are those of the state to stop at
abbrev pub IsSkip : List ℕ → List ℕ → Skip → Type 0
IsSkip cells classes s = s.stop < tag → IsLeft cells classes s.stop s.leaving × IfSome s.behind (IsAfterByte cells classes s.stop s.leaving)

-- each byte of a haystack from one offset up to another leads from an ID back to it
abbrev pub StaysOver : List ℕ → List ℕ → List ℕ → ℕ → ℕ → ℕ → Type 0
StaysOver cells classes h id i j = (k : ℕ) → i ≤ k → k < j → cell_by cells classes id (slice_index_or h k 0) ≡ id

-- Each byte that fails the first test leads from an ID back to it. If a byte passes that test and the byte after it
-- fails the second test, the latter fails the first test too. Both together then lead back to the ID, by way of an ID
-- without a tag.
pub record AreSkipped (cells classes : List ℕ) (id : ℕ) (test second : ℕ → Bool) : Type 0 where
  pub stays : (byte : ℕ) → byte < 256 → test byte ≡ false → cell_by cells classes id byte ≡ id
  pub quiet : (byte behind : ℕ) → byte < 256 → behind < 256 → test byte ≡ true → second behind ≡ false → test behind ≡ false
  pub plain : (byte behind : ℕ) → byte < 256 → behind < 256 → test byte ≡ true → second behind ≡ false → cell_by cells classes id byte < tag
  pub back : (byte behind : ℕ) → byte < 256 → behind < 256 → test byte ≡ true → second behind ≡ false →
      cell_by cells classes (cell_by cells classes id byte) behind ≡ id
