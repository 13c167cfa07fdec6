use Rattle.std.proofs.Common.{subst}
use Rattle.lazy_dfa.specs.Dfas.{Dfa}
use Rattle.lazy_dfa.specs.OverlappingAnswers.{AnswersWhich}
use Rattle.growing_regex.proofs.overlapping_search.add_counted.Goals as goal

pub returns-clause-answer : goal.returns-clause-answer
returns-clause-answer g c =
    let it = c.try_which_overlapping_matches in
    subst (λ (d : Dfa). AnswersWhich d it.new.cache c.args.input.now c.args.set.now it.new.patterns it.result) c.forward.ensures.value
    it.ensures.which.answer
