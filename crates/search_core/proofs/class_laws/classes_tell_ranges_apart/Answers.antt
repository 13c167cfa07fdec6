use Rattle.search_core.proofs.MarkLemmas.{same_class_tells}
use Rattle.search_core.proofs.class_laws.classes_tell_ranges_apart.Goals as goal

pub returns-clause-reports : goal.returns-clause-reports
returns-clause-reports c = same_class_tells
