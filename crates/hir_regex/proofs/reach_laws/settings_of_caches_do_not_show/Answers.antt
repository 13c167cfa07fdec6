use Rattle.hir_regex.proofs.ReachLemmas.{answers_alike, tells_alike}
use Rattle.hir_regex.proofs.reach_laws.settings_of_caches_do_not_show.Goals as goal

pub returns-clause-answer : goal.returns-clause-answer
returns-clause-answer c = answers_alike

pub returns-clause-reported : goal.returns-clause-reported
returns-clause-reported c = tells_alike
