use Rattle.std.proofs.Common.{subst}
use Rattle.regex_pair.specs.Pairs.{AreCachesOf, Pair}
use Rattle.growing_regex.proofs.GrownLemmas.{as_made}
use Rattle.growing_regex.proofs.regex.GrowingRegex.new.Goals as goal

pub invariant_of-result : goal.invariant_of-result
invariant_of-result c = (
  as_made _ c.args.regex.value c.in_ok-origin.ensures,
  subst (λ (p : Pair). AreCachesOf p c.in_ok-cache.cache) c.deref.ensures c.in_ok-cache.ensures.own,
)
