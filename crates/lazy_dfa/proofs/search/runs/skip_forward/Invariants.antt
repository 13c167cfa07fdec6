use Rattle.std.proofs.Common.{◌≡◌, ◌-◌}
use Rattle.lazy_dfa.specs.Stretches.{MovesTo}
use Rattle.lazy_dfa.proofs.search.runs.skip_forward.Given as goal

abbrev pub invariant-loop-sid : goal.invariant-loop-sid
invariant-loop-sid l = record {
  same : l.cache ≡ l.fn.cache;
  moves : MovesTo l.dfa l.fn.cache l.haystack (record { at = l.from; id = l.fn.id }) l.end (record { at = l.at; id = l.sid });
}

abbrev pub decreases-loop-sid : goal.decreases-loop-sid
decreases-loop-sid l = l.end - l.at
