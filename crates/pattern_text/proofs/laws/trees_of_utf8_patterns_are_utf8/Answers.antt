use Rattle.pattern_text.proofs.TranslatedLemmas.{is_text}
use Rattle.pattern_text.proofs.laws.trees_of_utf8_patterns_are_utf8.Goals as goal

pub returns : goal.returns
returns c = is_text
