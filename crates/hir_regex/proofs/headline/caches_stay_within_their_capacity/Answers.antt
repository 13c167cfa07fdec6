use Rattle.hir_regex.proofs.HeadlineLemmas.{caches_fit}
use Rattle.hir_regex.proofs.headline.caches_stay_within_their_capacity.Goals as goal

pub returns : goal.returns
returns c = caches_fit
