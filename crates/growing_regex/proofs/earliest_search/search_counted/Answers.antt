use Rattle.std.proofs.Common.{subst}
use Rattle.lazy_dfa.specs.Dfas.{Dfa}
use Rattle.lazy_dfa.specs.SearchAnswers.{Answers}
use Rattle.growing_regex.proofs.earliest_search.search_counted.Goals as goal

pub returns-clause-answer : goal.returns-clause-answer
returns-clause-answer g c =
    subst (λ (d : Dfa). Answers d c.try_search_fwd.new.cache c.args.input.now c.try_search_fwd.result) c.forward.ensures.value
    c.try_search_fwd.ensures.answer.answer
