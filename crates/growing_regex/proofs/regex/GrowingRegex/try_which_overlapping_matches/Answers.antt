use Rattle.std.proofs.Common.{Err, Ok, subst}
use Rattle.lazy_dfa.specs.OverlappingAnswers.{AnswersWhich}
use Rattle.regex_pair.specs.Pairs.{Pair}
use Rattle.growing_regex.specs.Growing.{AreGrown, Growing}
use Rattle.growing_regex.proofs.regex.GrowingRegex.try_which_overlapping_matches.Goals as goal

pub returns-in-Ok-clause-added : goal.returns-in-Ok-clause-added
returns-in-Ok-clause-added c = record {
  pair = c.self.inside.regex.value;
  cache = c.add_counted.new.cache.forward;
  grown = subst (λ (g : Growing). AreGrown g c.self.inside.regex.value) c.self.view_is c.self.invariant.0;
  answer = subst (λ (p : Pair). AnswersWhich p.forward c.add_counted.new.cache.forward c.args.input.now c.args.set.now c.add_counted.new.set
      (Ok tt)) c.deref.ensures c.in-Ok.ensures.answer;
}

pub returns-in-Err-clause-added : goal.returns-in-Err-clause-added
returns-in-Err-clause-added c = record {
  pair = c.self.inside.regex.value;
  cache = c.add_counted.new.cache.forward;
  grown = subst (λ (g : Growing). AreGrown g c.self.inside.regex.value) c.self.view_is c.self.invariant.0;
  answer = subst (λ (p : Pair). AnswersWhich p.forward c.add_counted.new.cache.forward c.args.input.now c.args.set.now c.add_counted.new.set
      (Err c.in-Err.e)) c.deref.ensures c.in-Err.ensures.answer;
}
