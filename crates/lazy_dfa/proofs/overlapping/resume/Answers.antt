use Rattle.std.proofs.Common.{ℕ, sym, ◌∙◌, subst}
use Rattle.std.specs.Prelude.{Ok}
use Rattle.lazy_dfa.specs.Caches.{HeldAt}
use Rattle.lazy_dfa.specs.Dfas.{reader}
use Rattle.lazy_dfa.specs.declared.overlapping.overlapping_state.OverlappingPosition.TheVariants.{Stopped}
use Rattle.lazy_dfa.specs.Overlapping.{OverlappingValue}
use Rattle.lazy_dfa.specs.OverlappingAnswers.{MakesCall, ReadsOn, value_before}
use Rattle.lazy_dfa.proofs.OverlappingWalks.WalkStopLemmas.{more_call, over_call, resumes_held, resumes}
use Rattle.lazy_dfa.proofs.overlapping.resume.Goals as goal

pub returns-then-lists_more-clause-call : goal.returns-then-lists_more-clause-call
returns-then-lists_more-clause-call g c = more_call c.args.dfa.now c.args.input.now c.args.cache.now c.args.work.now.determinized
    c.args.work.now.inserted
    c.args.stop c.requires.stops c.tell.result (sym c.lists_more.ensures ∙ c.if-lists_more.true) c.tell.ensures.found c.tell.ensures.walk

pub returns-then-stop-last_offset-clause-call : goal.returns-then-stop-last_offset-clause-call
returns-then-stop-last_offset-clause-call g c =
    subst (λ (after : OverlappingValue). MakesCall c.args.dfa.now c.args.input.now c.args.cache.now c.args.cache.now
    c.args.work.now.determinized
    c.args.work.now.determinized c.args.work.now.inserted c.args.work.now.inserted (Stopped c.args.stop) after (Ok tt))
    (sym c.ended.ensures)
    (over_call c.args.dfa.now c.args.input.now c.args.cache.now c.args.work.now.determinized c.args.work.now.inserted c.args.stop
    c.requires.stops
    (sym c.lists_more.ensures ∙ c.if-lists_more.false) c.args.is_reverse c.requires.is_reverse (c.if-stop-last_offset.true
    ∙ c.last_offset.ensures))

pub read_on-requires-clause-state : goal.read_on-requires-clause-state
read_on-requires-clause-state g c =
    subst (λ (at : ℕ). HeldAt c.args.cache.now c.args.stop.id (value_before (reader c.args.dfa.now) c.args.input.now at))
    (sym c.next_offset.ensures)
    (resumes_held c.args.dfa.now c.args.input.now c.args.cache.now c.args.work.now.determinized c.args.work.now.inserted c.args.stop
    c.is_made.ensures
    c.requires.own c.requires.stops (sym c.lists_more.ensures ∙ c.if-lists_more.false) c.args.is_reverse c.requires.is_reverse
    (λ e. c.if-stop-last_offset.false (e ∙ sym c.last_offset.ensures)))

pub returns-clause-call : goal.returns-clause-call
returns-clause-call g c = (resumes c.args.dfa.now c.args.input.now c.args.cache.now c.args.work.now.determinized c.args.work.now.inserted
    c.args.stop c.is_made.ensures
    c.requires.own c.requires.stops (sym c.lists_more.ensures ∙ c.if-lists_more.false) c.args.is_reverse c.requires.is_reverse
    (λ e. c.if-stop-last_offset.false (e ∙ sym c.last_offset.ensures)) c.read_on.new.cache c.read_on.new.work.determinized
    c.read_on.new.work.inserted c.read_on.result
    (subst (λ (at : ℕ). ReadsOn c.args.dfa.now c.args.input.now at c.args.cache.now c.read_on.new.cache c.args.work.now.determinized
    c.read_on.new.work.determinized c.args.work.now.inserted c.read_on.new.work.inserted c.read_on.result) c.next_offset.ensures
    c.read_on.ensures.reads)).0

pub returns-clause-err : goal.returns-clause-err
returns-clause-err g c = (resumes c.args.dfa.now c.args.input.now c.args.cache.now c.args.work.now.determinized c.args.work.now.inserted
    c.args.stop c.is_made.ensures
    c.requires.own c.requires.stops (sym c.lists_more.ensures ∙ c.if-lists_more.false) c.args.is_reverse c.requires.is_reverse
    (λ e. c.if-stop-last_offset.false (e ∙ sym c.last_offset.ensures)) c.read_on.new.cache c.read_on.new.work.determinized
    c.read_on.new.work.inserted c.read_on.result
    (subst (λ (at : ℕ). ReadsOn c.args.dfa.now c.args.input.now at c.args.cache.now c.read_on.new.cache c.args.work.now.determinized
    c.read_on.new.work.determinized c.args.work.now.inserted c.read_on.new.work.inserted c.read_on.result) c.next_offset.ensures
    c.read_on.ensures.reads)).1
