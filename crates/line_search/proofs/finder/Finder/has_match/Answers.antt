use Rattle.std.proofs.Common.{ℕ, List, Ok, subst, ◌∙◌, sym}
use Rattle.search_types.specs.Inputs.{Search}
use Rattle.growing_regex.specs.Growing.{AnswersBy, Growing}
use Rattle.line_search.specs.Searchers.{IsMatchReported, Sought}
use Rattle.line_search.specs.declared.patterns.PatternOptions.{PatternOptions}
use Rattle.line_search.proofs.MatchLemmas.{progress_of}
use Rattle.line_search.proofs.OwnLemmas.{IsOwn}
use Rattle.line_search.proofs.finder.Finder.has_match.Goals as goal

pub returns-in-Ok-clause-reported : goal.returns-in-Ok-clause-reported
returns-in-Ok-clause-reported c =
    subst (λ (s : Sought). IsMatchReported s.how s.texts c.args.line.now c.is_some.result) c.self.view_is
    (λ res read. c.is_some.ensures
    ∙ progress_of c.self.inside.patterns.now.0 c.self.inside.patterns.now.1 c.self.inside.searcher c.args.line.now c.in-Ok.found
    c.searches_answer_leftmost_whatever_the_loops.ensures c.self.invariant.0.0 c.see_bytes.ensures
    (subst (λ (q : Search). AnswersBy c.self.inside.searcher q (Ok c.in-Ok.found)) c.new.ensures c.in-Ok.ensures.answer) res read)

pub returns-clause-reported : goal.returns-clause-reported
returns-clause-reported c =
    subst (λ (s : Sought). IsMatchReported s.how s.texts c.args.line.now c.in_ok-has.has) c.self.view_is
    (subst (λ (v : PatternOptions × List (List ℕ)). IsMatchReported v.0 v.1 c.args.line.now c.in_ok-has.has) c.self.invariant.1
    c.in_ok-has.ensures.reported)

pub invariant_of-self : goal.invariant_of-self
invariant_of-self c = (
  subst (λ (x : Growing). IsOwn c.self.inside.patterns.now.0 c.self.inside.patterns.now.1 c.self.inside.with_matches x.pair)
      (sym c.find.ensures.same) c.self.invariant.0,
  c.self.invariant.1,
  c.self.invariant.2,
  c.self.invariant.3,
  c.self.invariant.4,
)

pub invariant_of-self-then-lacks_memory : goal.invariant_of-self-then-lacks_memory
invariant_of-self-then-lacks_memory c = (
  subst (λ (x : Growing). IsOwn c.self.inside.patterns.now.0 c.self.inside.patterns.now.1 c.self.inside.with_matches x.pair)
      (sym c.find.ensures.same) c.self.invariant.0,
  c.self.invariant.1,
  c.self.invariant.2,
  c.self.invariant.3,
  c.self.invariant.4,
)

pub invariant_of-self-in_err-has : goal.invariant_of-self-in_err-has
invariant_of-self-in_err-has c = (
  subst (λ (x : Growing). IsOwn c.self.inside.patterns.now.0 c.self.inside.patterns.now.1 c.self.inside.with_matches x.pair)
      (sym c.find.ensures.same) c.self.invariant.0,
  c.has_match.ensures.same ∙ c.self.invariant.1,
  c.self.invariant.2,
  c.self.invariant.3,
  c.self.invariant.4,
)

pub invariant_of-self-2 : goal.invariant_of-self-2
invariant_of-self-2 c = (
  subst (λ (x : Growing). IsOwn c.self.inside.patterns.now.0 c.self.inside.patterns.now.1 c.self.inside.with_matches x.pair)
      (sym c.find.ensures.same) c.self.invariant.0,
  c.has_match.ensures.same ∙ c.self.invariant.1,
  c.self.invariant.2,
  c.self.invariant.3,
  c.self.invariant.4,
)
