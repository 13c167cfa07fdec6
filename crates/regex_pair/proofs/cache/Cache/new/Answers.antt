use Rattle.std.proofs.Common.{subst}
use Rattle.lazy_dfa.specs.Caches.{IsCacheOf}
use Rattle.lazy_dfa.specs.Dfas.{Dfa}
use Rattle.regex_pair.proofs.cache.Cache.new.Goals as goal

pub returns-clause-own : goal.returns-clause-own
returns-clause-own c = record {
  forward = subst (λ (d : Dfa). IsCacheOf d c.in_ok-forward.forward) c.forward.ensures.value c.in_ok-forward.ensures.own;
  reverse = subst (λ (d : Dfa). IsCacheOf d c.in_ok-reverse.reverse) c.reverse.ensures.value c.in_ok-reverse.ensures.own;
}
