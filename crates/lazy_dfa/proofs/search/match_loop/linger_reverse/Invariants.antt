use Rattle.std.proofs.Common.{◌-◌, ◌≤◌}
use Rattle.lazy_dfa.specs.Caches.{IsRow}
use Rattle.lazy_dfa.specs.MatchLoops.{Lingers}
use Rattle.lazy_dfa.proofs.search.match_loop.linger_reverse.Given as goal

abbrev pub invariant-loop-at : goal.invariant-loop-at
invariant-loop-at l = record {
  row : IsRow l.cache l.sid;
  past : l.at ≤ l.from;
  within : l.end ≤ l.at;
  lingers : Lingers l.dfa l.haystack l.cache l.from l.fn.id l.at l.sid l.met.id l.met.last (l.from - l.at);
}

abbrev pub decreases-loop-at : goal.decreases-loop-at
decreases-loop-at l = l.at - l.end
