use Rattle.std.proofs.Common.{◌-◌, ◌≤◌, ℕ}
use Rattle.lazy_dfa.specs.Caches.{IsRow}
use Rattle.lazy_dfa.specs.MatchLoops.{Lingers}
use Rattle.lazy_dfa.proofs.search.match_loop.stay_forward.Given as goal

abbrev pub invariant-loop-at : goal.invariant-loop-at
invariant-loop-at l = record {
  past : l.from ≤ l.at;
  within : l.at ≤ l.end;
  lingers : (start first : ℕ) → start ≤ l.from → IsRow l.cache first →
      Lingers l.dfa l.haystack l.cache start first l.from l.fn.id l.fn.met.id l.fn.met.last (l.from - start) →
      Lingers l.dfa l.haystack l.cache start first l.at l.fn.id l.now.id l.now.last (l.at - start);
}

abbrev pub decreases-loop-at : goal.decreases-loop-at
decreases-loop-at l = l.end - l.at
