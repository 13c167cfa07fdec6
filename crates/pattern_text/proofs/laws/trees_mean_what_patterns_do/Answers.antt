use Rattle.pattern_text.proofs.TranslatedLemmas.{same_ends, same_spans, keeps_names}
use Rattle.pattern_text.proofs.laws.trees_mean_what_patterns_do.Goals as goal

pub returns-clause-ends : goal.returns-clause-ends
returns-clause-ends c = same_ends

pub returns-clause-spans : goal.returns-clause-spans
returns-clause-spans c = same_spans

pub returns-clause-named : goal.returns-clause-named
returns-clause-named c = keeps_names
