use Rattle.hirgrep_main.proofs.OutcomeLemmas.{continues_on, tries_after, unrefused}
use Rattle.hirgrep_main.proofs.files.opening.search_input.Goals as goal

pub returns-clause-tried : goal.returns-clause-tried
returns-clause-tried c = λ _. tries_after (unrefused c.is_refused_output.result c.is_refused_output.ensures.came (search)) c.search_reader.ensures.tried

pub returns-clause-continues : goal.returns-clause-continues
returns-clause-continues c = continues_on c.is_refused_output.ensures.continues c.search_reader.ensures.continues
