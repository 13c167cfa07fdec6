use Rattle.std.proofs.Common.{◌+◌, ◌-◌, ◌≤◌}
use Rattle.lazy_dfa.specs.Stretches.{MovesTo}
use Rattle.lazy_dfa.proofs.search.bytewise.walk_both.Given as goal

abbrev pub invariant-both : goal.invariant-both
invariant-both l = record {
  most : l.read ≤ l.count;
  first : MovesTo l.dfa l.cache l.haystack (record { at = l.from; id = l.fn.first }) (l.from + l.count)
      (record { at = l.from + l.read; id = l.one });
  second : MovesTo l.dfa l.cache l.haystack (record { at = l.further; id = l.fn.second }) (l.further + l.count)
      (record { at = l.further + l.read; id = l.other });
}

abbrev pub decreases-both : goal.decreases-both
decreases-both l = l.count - l.read
