use Rattle.std.proofs.Common.{length, ◌-◌}
use Rattle.lazy_dfa.specs.Caches.{IsCacheOf}
use Rattle.streams.specs.Streams.{IsStreamOf}
use Rattle.streams.proofs.LineCallLemmas.{IsSoFar}
use Rattle.streams.proofs.stream.Stream.feed_lines.Given as goal

abbrev pub invariant-loop-taken : goal.invariant-loop-taken
invariant-loop-taken l = record {
  own : IsCacheOf l.dfa l.cache;
  stream : IsStreamOf l.dfa l.self;
  so : IsSoFar l.dfa l.terminator l.initial.self l.self l.bytes l.initial.rows l.rows l.taken l.count;
}

abbrev pub decreases-loop-taken : goal.decreases-loop-taken
decreases-loop-taken l = length l.bytes - l.taken
