use Rattle.std.proofs.Common.{None}
use Rattle.lazy_dfa.specs.Caches.{IsCacheOf, IsRow}
use Rattle.lazy_dfa.specs.Points.{point}
use Rattle.lazy_dfa.specs.SearchAnswers.{pair_of}
use Rattle.lazy_dfa.specs.ScanOffsets.{IsWithinSpan, left_at}
use Rattle.lazy_dfa.proofs.OverlappingWalks.WalkReadLemmas.{StandsOn}
use Rattle.lazy_dfa.proofs.overlapping.walk_reads.read_on.Given as goal

abbrev pub invariant-loop-read : goal.invariant-loop-read
invariant-loop-read g l = record {
  own : IsCacheOf l.dfa l.cache;
  row : IsRow l.cache l.position.id;
  within : IsWithinSpan l.input l.position.at;
  stands : StandsOn l.dfa l.input
      (point l.fn.cache l.fn.work.determinized l.fn.work.inserted l.fn.first.at l.fn.first.id None)
      (point l.cache l.work.determinized l.work.inserted l.position.at l.position.id (pair_of l.position.best));
}

abbrev pub decreases-loop-read : goal.decreases-loop-read
decreases-loop-read g l = left_at l.is_reverse l.input l.position.at
