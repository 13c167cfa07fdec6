use Rattle.std.proofs.Common.{◌≡◌, ◌+◌, ◌≤◌, length, take}
use Rattle.determinize_core.specs.States.{StateValue}
use Rattle.lazy_dfa.specs.Caches.{HeldAt, IsCacheOf, IsRow}
use Rattle.streams.specs.Reading.{Appends, IsAt, within}
use Rattle.streams.specs.Streams.{stream_ends}
use Rattle.streams.proofs.reading.read_piece.Given as goal

abbrev pub invariant-loop-k : goal.invariant-loop-k
invariant-loop-k g l = record {
  own : IsCacheOf l.dfa l.cache;
  row : IsRow l.cache l.id;
  len : length l.rows ≡ length l.initial.rows;
  count : l.count ≤ length l.rows;
  read : (s : StateValue) → HeldAt l.initial.cache l.initial.id s →
      IsAt l.dfa l.cache s l.offset (take l.k l.bytes) l.id (l.offset + l.k) ×
      Appends l.initial.rows l.rows 0 l.count (stream_ends l.dfa (within s l.offset) (take l.k l.bytes));
}
