use Rattle.hir_regex.proofs.SureLemmas.{search_is_sure, match_is_sure, step_is_sure}
use Rattle.hir_regex.proofs.headline.searches_answer_where_no_byte_quits.Goals as goal

pub returns-clause-search : goal.returns-clause-search
returns-clause-search c = search_is_sure

pub returns-clause-is_match : goal.returns-clause-is_match
returns-clause-is_match c = match_is_sure

pub returns-clause-step : goal.returns-clause-step
returns-clause-step c = λ xs s p made first none q asked supported quiet fs old new e ready same taken step.
    step_is_sure xs s p made first none q asked supported quiet fs old new e same taken step
