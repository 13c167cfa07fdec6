use Rattle.hir_regex.proofs.AnswerLemmas.{answer_counts, answers_count}
use Rattle.hir_regex.proofs.laws.answers_start_and_end_where_it_counts.Goals as goal

pub returns-clause-one : goal.returns-clause-one
returns-clause-one c = answer_counts

pub returns-clause-all : goal.returns-clause-all
returns-clause-all c = answers_count
