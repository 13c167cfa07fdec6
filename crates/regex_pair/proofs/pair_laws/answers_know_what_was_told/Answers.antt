use Rattle.regex_pair.proofs.PairToldLemmas.{end_is_told, match_is_asked, start_is_told, starts_are_untouched}
use Rattle.regex_pair.proofs.pair_laws.answers_know_what_was_told.Goals as goal

pub returns-clause-end : goal.returns-clause-end
returns-clause-end c = end_is_told

pub returns-clause-start : goal.returns-clause-start
returns-clause-start c = start_is_told

pub returns-clause-untouched : goal.returns-clause-untouched
returns-clause-untouched c = starts_are_untouched

pub returns-clause-is_match : goal.returns-clause-is_match
returns-clause-is_match c = match_is_asked
