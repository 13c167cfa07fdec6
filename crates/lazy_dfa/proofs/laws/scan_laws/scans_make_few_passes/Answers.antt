use Rattle.lazy_dfa.proofs.HalfSearches.CountLemmas.{few_passes_counted}
use Rattle.lazy_dfa.proofs.HalfSearches.CountLemmas.{few_units_counted}
use Rattle.lazy_dfa.proofs.laws.scan_laws.scans_make_few_passes.Goals as goal

pub returns-clause-few : goal.returns-clause-few
returns-clause-few c = λ r q. few_passes_counted r q

pub returns-clause-units : goal.returns-clause-units
returns-clause-units c = λ r q. few_units_counted r q
