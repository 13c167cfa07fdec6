use Rattle.std.proofs.Common.{◌≡◌, ℕ, List, Ok, ap, map, subst, true, ◌∙◌, sym}
use Rattle.search_types.specs.Found.{Found}
use Rattle.search_types.specs.Inputs.{Search}
use Rattle.growing_regex.specs.Growing.{Growing, ListsBy}
use Rattle.pattern_search.specs.Searches.{span_of_found, whole_search}
use Rattle.line_search.specs.LineMatchers.{span_pair}
use Rattle.line_search.specs.Searchers.{AreReported, Sought}
use Rattle.line_search.specs.declared.patterns.PatternOptions.{PatternOptions}
use Rattle.line_search.proofs.ToldLemmas.{all_told}
use Rattle.line_search.proofs.OwnLemmas.{IsOwn}
use Rattle.line_search.proofs.finder.Finder.matches.Goals as goal

pub returns-in-Ok-clause-reported : goal.returns-in-Ok-clause-reported
returns-in-Ok-clause-reported c =
    subst (λ (s : Sought). s.spans ≡ true → AreReported s.how s.texts c.args.line.now (map span_pair c.in_ok-spans-in-Ok.spans.items)) c.self.view_is
    (λ asked. all_told c.self.inside.patterns.now.0 c.self.inside.patterns.now.1 c.self.inside.searcher c.args.line.now c.in-Ok.all.items _
    c.regexes_answer_what_patterns_say.ensures c.self.invariant.0.0 (c.self.invariant.0.1 asked).0 (c.self.invariant.0.1 asked).1
    c.see_bytes.ensures
    (subst (λ (q : Search). ListsBy c.self.inside.searcher q c.in-Ok.all.items) c.new.ensures c.in-Ok.ensures.all)
    (c.in_ok-spans-in-Ok.ensures ∙ ap (λ (fs : List Found). map span_of_found fs) c.deref.ensures.value))

pub returns-clause-reported : goal.returns-clause-reported
returns-clause-reported c asked =
    subst (λ (s : Sought). AreReported s.how s.texts c.args.line.now (map span_pair c.in_ok-found.found.items)) c.self.view_is
    (subst (λ (v : PatternOptions × List (List ℕ)). AreReported v.0 v.1 c.args.line.now (map span_pair c.in_ok-found.found.items))
    c.self.invariant.1 c.in_ok-found.ensures.reported)

pub invariant_of-self : goal.invariant_of-self
invariant_of-self c = (
  subst (λ (x : Growing). IsOwn c.self.inside.patterns.now.0 c.self.inside.patterns.now.1 c.self.inside.with_matches x.pair)
      (sym c.find_all.ensures.same) c.self.invariant.0,
  c.self.invariant.1,
  c.self.invariant.2,
  c.self.invariant.3,
  c.self.invariant.4,
)

pub invariant_of-self-in-Ok : goal.invariant_of-self-in-Ok
invariant_of-self-in-Ok c = (
  subst (λ (x : Growing). IsOwn c.self.inside.patterns.now.0 c.self.inside.patterns.now.1 c.self.inside.with_matches x.pair)
      (sym c.find_all.ensures.same) c.self.invariant.0,
  c.self.invariant.1,
  c.self.invariant.2,
  c.self.invariant.3,
  c.self.invariant.4,
)

pub invariant_of-self-then-lacks_memory : goal.invariant_of-self-then-lacks_memory
invariant_of-self-then-lacks_memory c = (
  subst (λ (x : Growing). IsOwn c.self.inside.patterns.now.0 c.self.inside.patterns.now.1 c.self.inside.with_matches x.pair)
      (sym c.find_all.ensures.same) c.self.invariant.0,
  c.self.invariant.1,
  c.self.invariant.2,
  c.self.invariant.3,
  c.self.invariant.4,
)

pub invariant_of-self-in_err-found : goal.invariant_of-self-in_err-found
invariant_of-self-in_err-found c = (
  subst (λ (x : Growing). IsOwn c.self.inside.patterns.now.0 c.self.inside.patterns.now.1 c.self.inside.with_matches x.pair)
      (sym c.find_all.ensures.same) c.self.invariant.0,
  c.matches.ensures.same ∙ c.self.invariant.1,
  c.self.invariant.2,
  c.self.invariant.3,
  c.self.invariant.4,
)

pub invariant_of-self-2 : goal.invariant_of-self-2
invariant_of-self-2 c = (
  subst (λ (x : Growing). IsOwn c.self.inside.patterns.now.0 c.self.inside.patterns.now.1 c.self.inside.with_matches x.pair)
      (sym c.find_all.ensures.same) c.self.invariant.0,
  c.matches.ensures.same ∙ c.self.invariant.1,
  c.self.invariant.2,
  c.self.invariant.3,
  c.self.invariant.4,
)
