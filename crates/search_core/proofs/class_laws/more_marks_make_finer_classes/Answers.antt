use Rattle.search_core.proofs.MarkLemmas.{marks_stay}
use Rattle.search_core.proofs.class_laws.more_marks_make_finer_classes.Goals as goal

pub returns-clause-more : goal.returns-clause-more
returns-clause-more c = marks_stay
