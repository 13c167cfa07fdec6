use Rattle.std.proofs.Common.{◌+◌, ◌-◌}
use Rattle.lazy_dfa.specs.Caches.{IsCacheOf}
use Rattle.lazy_dfa.proofs.Courses.SearchLemmas.{HasCome}
use Rattle.lazy_dfa.proofs.search.searching.search_again.Given as goal

abbrev pub invariant-loop-rest : goal.invariant-loop-rest
invariant-loop-rest g l = record {
  own : IsCacheOf l.dfa l.cache;
  stands : HasCome l.dfa l.input l.rest l.fn.cache l.cache l.fn.work.determinized l.work.determinized l.fn.work.inserted l.work.inserted;
}

abbrev pub decreases-loop-rest : goal.decreases-loop-rest
decreases-loop-rest g l = l.rest.end + 1 - l.rest.start
