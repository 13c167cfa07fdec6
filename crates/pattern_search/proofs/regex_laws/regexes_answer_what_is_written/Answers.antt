use Rattle.pattern_search.proofs.ReadLemmas.{answers_what_is_written}
use Rattle.pattern_search.proofs.regex_laws.regexes_answer_what_is_written.Goals as goal

pub returns : goal.returns
returns c = λ config texts xs means s p built first feeds. answers_what_is_written config texts xs s p means
    (λ res ends spans. c.regexes_answer_what_patterns_say.ensures res xs ends spans s p built first feeds)
