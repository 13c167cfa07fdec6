use Rattle.std.proofs.Common.{◌≡◌, ◌+◌, ◌++◌, length, map, take}
use Rattle.determinize_core.specs.States.{StateValue}
use Rattle.lazy_dfa.specs.Caches.{HeldAt}
use Rattle.streams.specs.Streams.{stream_end}
use Rattle.streams.proofs.rows.write_ends.Given as goal

abbrev pub invariant-loop-k : goal.invariant-loop-k
invariant-loop-k l = record {
  len : length l.rows ≡ length l.initial.rows;
  rows : (s : StateValue) → HeldAt l.cache l.id s →
      take (l.count + l.k) l.rows ≡ take l.count l.initial.rows ++ map (stream_end l.end) (take l.k s.matches);
}
