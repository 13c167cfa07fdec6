use Rattle.pattern_text.proofs.FirstSpanLemmas.{found_first, found_none}
use Rattle.pattern_text.proofs.laws.searches_find_the_first_preferred_span.Goals as goal

pub returns-clause-found : goal.returns-clause-found
returns-clause-found c = found_first

pub returns-clause-none : goal.returns-clause-none
returns-clause-none c = found_none
