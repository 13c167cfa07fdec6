use Rattle.std.proofs.Common.{Err, Ok, subst}
use Rattle.regex_pair.specs.PairAnswers.{AnswersPair}
use Rattle.regex_pair.specs.Pairs.{Pair}
use Rattle.growing_regex.specs.Growing.{AreGrown, Growing}
use Rattle.growing_regex.proofs.regex.GrowingRegex.find.Goals as goal

pub returns-in-Ok-clause-answer : goal.returns-in-Ok-clause-answer
returns-in-Ok-clause-answer c = record {
  pair = c.self.inside.regex.value;
  cache = c.find.new.cache;
  grown = subst (λ (g : Growing). AreGrown g c.self.inside.regex.value) c.self.view_is c.self.invariant.0;
  answer = subst (λ (p : Pair). AnswersPair p c.find.new.cache c.args.input.now (Ok c.in-Ok.found)) c.deref.ensures c.in-Ok.ensures.answer;
}

pub returns-in-Err-clause-answer : goal.returns-in-Err-clause-answer
returns-in-Err-clause-answer c = record {
  pair = c.self.inside.regex.value;
  cache = c.find.new.cache;
  grown = subst (λ (g : Growing). AreGrown g c.self.inside.regex.value) c.self.view_is c.self.invariant.0;
  answer = subst (λ (p : Pair). AnswersPair p c.find.new.cache c.args.input.now (Err c.in-Err.e)) c.deref.ensures c.in-Err.ensures.answer;
}
