use Rattle.std.proofs.Common.{sym, refl, suc}
use Rattle.search_types.proofs.AllAnswersLemmas.{answer_written, answers_done}
use Rattle.search_types.proofs.all_answers_laws.the_list_goes_by_steps.Goals as goal

pub returns-clause-more : goal.returns-clause-more
returns-clause-more c = λ answer written n last at f is. sym (answer_written answer written (suc n) n last at f refl (sym is))

pub returns-clause-done : goal.returns-clause-done
returns-clause-done c = λ answer written n last at is. sym (answers_done answer written n last at (sym is))
