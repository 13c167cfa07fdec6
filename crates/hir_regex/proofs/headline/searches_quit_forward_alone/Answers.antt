use Rattle.hir_regex.proofs.SureLemmas.{quits_forward, never_no_pair}
use Rattle.hir_regex.proofs.headline.searches_quit_forward_alone.Goals as goal

pub returns-clause-quits : goal.returns-clause-quits
returns-clause-quits c = quits_forward

pub returns-clause-pair : goal.returns-clause-pair
returns-clause-pair c = never_no_pair
