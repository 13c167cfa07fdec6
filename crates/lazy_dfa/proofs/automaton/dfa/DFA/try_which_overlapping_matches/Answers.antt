use Rattle.std.proofs.Common.{refl, rules}
use Rattle.lazy_dfa.specs.Dfas.{reader}
use Rattle.lazy_dfa.specs.Changes.{unchanged}
use Rattle.lazy_dfa.specs.OverlappingAnswers.{which_made}
use Rattle.lazy_dfa.proofs.OverlappingWalks.WhichLoopLemmas.{is_sure}
use Rattle.lazy_dfa.proofs.automaton.dfa.DFA.try_which_overlapping_matches.Goals as goal

-- ---- a done span

pub returns-then-is_done-clause-which : goal.returns-then-is_done-clause-which
returns-then-is_done-clause-which g c = record {
  answer = search rules;
  kept = search rules;
  determinized = search rules;
  inserted = search rules;
  changes = unchanged c.args.cache.now (which_made (reader c.args.self.now) c.args.input.now) refl;
  reported = search rules;
}

pub returns-clause-sure : goal.returns-clause-sure
returns-clause-sure g c = is_sure c.args.self.now c.which.new.cache c.args.input.now c.args.patterns.now c.which.new.patterns c.which.result
    c.which.ensures.which.answer
