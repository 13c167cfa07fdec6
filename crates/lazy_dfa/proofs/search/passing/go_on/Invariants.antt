use Rattle.std.proofs.Common.{◌≡◌, true, false, None, IsSome}
use Rattle.lazy_dfa.specs.Caches.{IsCacheOf, IsRow}
use Rattle.lazy_dfa.specs.Points.{point}
use Rattle.lazy_dfa.specs.HalfSearches.{first_offset}
use Rattle.lazy_dfa.specs.SearchAnswers.{pair_of}
use Rattle.lazy_dfa.specs.ScanOffsets.{IsWithinSpan, reports, came, left_at, GoesBetween}
use Rattle.lazy_dfa.proofs.Courses.PassLoopLemmas.{IsUnder}
use Rattle.lazy_dfa.proofs.search.passing.go_on.Given as goal

abbrev pub invariant-loop-turned : goal.invariant-loop-turned
invariant-loop-turned g l = record {
  own : IsCacheOf l.dfa l.cache;
  row : IsRow l.cache l.position.id;
  within : IsWithinSpan l.input l.position.at;
  running : reports l.is_reverse l.input ≡ true → IsSome l.cache.progress;
  same : reports l.is_reverse l.input ≡ false → l.cache ≡ l.fn.cache;
  goes : GoesBetween l.dfa l.input.earliest l.input.haystack
      (point l.fn.cache l.fn.work.determinized l.fn.work.inserted (first_offset l.is_reverse l.input.start l.input.end) l.fn.id None)
      (point l.cache l.work.determinized l.work.inserted l.position.at l.position.id (pair_of l.position.best))
      (came l.is_reverse l.input l.position.at);
  under : IsUnder l.is_reverse l.input (first_offset l.is_reverse l.input.start l.input.end) l.fn.cache l.cache
      (came l.is_reverse l.input l.position.at);
}

abbrev pub decreases-loop-turned : goal.decreases-loop-turned
decreases-loop-turned g l = left_at l.is_reverse l.input l.position.at
