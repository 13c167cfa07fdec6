use Rattle.std.proofs.Common.{refl}
use Rattle.regex_pair.specs.FindSteps.{finds_from}
use Rattle.regex_pair.proofs.NextLemmas.{stands_behind}
use Rattle.regex_pair.proofs.StepLemmas.{finds_match, finds_end, progress_of_match, finds_refusal, finds_nothing_more, found_is}
use Rattle.regex_pair.proofs.find_matches.FindMatchesIterator.next.Goals as goal

pub returns-in-Ok-Some-clause-steps : goal.returns-in-Ok-Some-clause-steps
returns-in-Ok-Some-clause-steps c =
    finds_match c.args.self.now _ c.requires c.if-self.false c.next_answer.ensures.own refl refl c.next_answer.ensures.kept
    c.search_over-input.result c.search_over-input.ensures c.next_answer.result c.next_answer.ensures.answer
    c.next_answer.ensures.searches c.next_answer.ensures.done c.in-Ok-Some.found
    (found_is c.next_answer.result c.in-Ok-Some.field-0 c.in-Ok-Some.found c.in-Ok-Some.is c.in-Ok-Some.field-0-is)
    (stands_behind (finds_from c.args.self.now) c.in-Ok-Some.found c.end-end.result c.if-self.false c.end-end.ensures.value)

pub returns-in-Ok-Some-clause-goes : goal.returns-in-Ok-Some-clause-goes
returns-in-Ok-Some-clause-goes c =
    progress_of_match c.args.self.now _ c.requires c.if-self.false c.next_answer.ensures.own refl refl c.next_answer.ensures.kept
    c.search_over-input.result c.search_over-input.ensures c.next_answer.result c.next_answer.ensures.answer
    c.next_answer.ensures.searches c.next_answer.ensures.done c.in-Ok-Some.found
    (found_is c.next_answer.result c.in-Ok-Some.field-0 c.in-Ok-Some.found c.in-Ok-Some.is c.in-Ok-Some.field-0-is)
    (stands_behind (finds_from c.args.self.now) c.in-Ok-Some.found c.end-end.result c.if-self.false c.end-end.ensures.value)

pub returns-in-Ok-None-clause-steps : goal.returns-in-Ok-None-clause-steps
returns-in-Ok-None-clause-steps c =
    finds_end c.args.self.now _ c.requires c.if-self.false c.next_answer.ensures.own refl refl c.next_answer.ensures.kept
    c.search_over-input.result c.search_over-input.ensures c.next_answer.result c.next_answer.ensures.answer
    c.next_answer.ensures.searches c.next_answer.ensures.done c.in-Ok-None.field-0 c.in-Ok-None.is c.in-Ok-None.field-0-is
    refl (record { within = c.requires.placed.within; behind = c.requires.placed.behind })

pub returns-in-Err-clause-steps : goal.returns-in-Err-clause-steps
returns-in-Err-clause-steps c =
    finds_refusal c.args.self.now _ c.requires c.if-self.false c.next_answer.ensures.own refl refl c.next_answer.ensures.kept
    c.search_over-input.result c.search_over-input.ensures c.next_answer.result c.next_answer.ensures.answer
    c.next_answer.ensures.searches c.next_answer.ensures.done c.in-Err.e c.in-Err.is
    refl (record { within = c.requires.placed.within; behind = c.requires.placed.behind })

pub returns-then-self-clause-steps : goal.returns-then-self-clause-steps
returns-then-self-clause-steps c = finds_nothing_more c.args.self.now c.requires c.if-self.true
