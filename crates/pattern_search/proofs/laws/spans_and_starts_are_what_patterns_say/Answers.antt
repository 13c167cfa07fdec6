use Rattle.pattern_search.proofs.StartLemmas.{spans_as_read}
use Rattle.pattern_search.proofs.laws.spans_and_starts_are_what_patterns_say.Goals as goal

pub returns-clause-spans : goal.returns-clause-spans
returns-clause-spans c = spans_as_read
