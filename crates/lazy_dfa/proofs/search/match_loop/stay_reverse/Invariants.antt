use Rattle.std.proofs.Common.{◌-◌, ◌≤◌, ℕ}
use Rattle.lazy_dfa.specs.Caches.{IsRow}
use Rattle.lazy_dfa.specs.MatchLoops.{Lingers}
use Rattle.lazy_dfa.proofs.search.match_loop.stay_reverse.Given as goal

abbrev pub invariant-loop-at : goal.invariant-loop-at
invariant-loop-at l = record {
  past : l.at ≤ l.from;
  within : l.end ≤ l.at;
  lingers : (start first : ℕ) → l.from ≤ start → IsRow l.cache first →
      Lingers l.dfa l.haystack l.cache start first l.from l.fn.id l.fn.met.id l.fn.met.last (start - l.from) →
      Lingers l.dfa l.haystack l.cache start first l.at l.fn.id l.now.id l.now.last (start - l.at);
}

abbrev pub decreases-loop-at : goal.decreases-loop-at
decreases-loop-at l = l.at - l.end
