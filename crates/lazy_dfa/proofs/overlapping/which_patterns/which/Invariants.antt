use Rattle.std.proofs.Common.{length}
use Rattle.lazy_dfa.specs.Caches.{IsCacheOf}
use Rattle.lazy_dfa.specs.Dfas.{reader}
use Rattle.lazy_dfa.specs.Overlapping.{CanContinue, rest_of}
use Rattle.lazy_dfa.proofs.OverlappingWalks.WhichLoopLemmas.{HasCome}
use Rattle.lazy_dfa.proofs.overlapping.which_patterns.which.Given as goal

abbrev pub invariant-loop-e : goal.invariant-loop-e
invariant-loop-e g l = record {
  own : IsCacheOf l.dfa l.cache;
  walk : CanContinue l.dfa l.cache l.input l.state.walk;
  stands : HasCome l.dfa l.input l.fn.cache l.cache l.fn.work.determinized l.work.determinized l.fn.work.inserted l.work.inserted
      l.fn.patterns l.patterns l.state.walk;
}

abbrev pub decreases-loop-e : goal.decreases-loop-e
decreases-loop-e g l = length (rest_of (reader l.dfa) l.input l.state.walk).ends
