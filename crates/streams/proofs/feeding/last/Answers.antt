use Rattle.std.proofs.Common.{◌∙◌, ℕ, None, Option, subst, sym}
use Rattle.std.specs.Prelude.{IfSome}
use Rattle.lazy_dfa.specs.Caches.{IsRow, state_at}
use Rattle.streams.specs.Feeding.{IsEntered}
use Rattle.streams.proofs.FeedLemmas.{alive_last, dead_last, last_row}
use Rattle.streams.proofs.TagLemmas.{held_by_row}
use Rattle.streams.proofs.feeding.last.Goals as goal

pub returns-in-Err-next_eoi_state-clause-err : goal.returns-in-Err-next_eoi_state-clause-err
returns-in-Err-next_eoi_state-clause-err g c =
    let x = subst (λ (o : Option ℕ). IfSome o (λ id. IsRow c.enter.new.cache id)) c.in-Ok-Some.field-0-is c.in-Ok-Some.ensures.row in
    c.of_step.ensures.step c.args.dfa.now c.enter.new.cache c.in-Ok-Some.id None (state_at c.enter.new.cache x.0)
    (held_by_row c.enter.new.cache c.in-Ok-Some.id x) c.in-Err-next_eoi_state.ensures.step.err

pub returns-then-is_dead-clause-last : goal.returns-then-is_dead-clause-last
returns-then-is_dead-clause-last g c =
    dead_last c.args.dfa.now c.enter.new.cache c.next_eoi_state.new.cache c.in-Ok-Some.id c.in-Ok.to c.in-Ok-Some.ensures.own
    c.in-Ok.ensures.own c.in-Ok.ensures.step.step c.args.point.now (sym c.is_dead.ensures ∙ c.if-is_dead.true) (subst (λ (o : Option ℕ). IsEntered c.args.dfa.now c.enter.new.cache c.args.point.now o) c.in-Ok-Some.field-0-is c.in-Ok-Some.ensures.entered)

pub returns-clause-row : goal.returns-clause-row
returns-clause-row g c =
    last_row c.args.dfa.now c.enter.new.cache c.next_eoi_state.new.cache c.in-Ok-Some.id c.in-Ok.to c.in-Ok-Some.ensures.own
    c.in-Ok.ensures.own c.in-Ok.ensures.step.step c.args.point.now (sym c.is_dead.ensures ∙ c.if-is_dead.false) (subst (λ (o : Option ℕ). IsEntered c.args.dfa.now c.enter.new.cache c.args.point.now o) c.in-Ok-Some.field-0-is c.in-Ok-Some.ensures.entered)

pub returns-clause-last : goal.returns-clause-last
returns-clause-last g c =
    alive_last c.args.dfa.now c.enter.new.cache c.next_eoi_state.new.cache c.in-Ok-Some.id c.in-Ok.to c.in-Ok-Some.ensures.own
    c.in-Ok.ensures.own c.in-Ok.ensures.step.step c.args.point.now (sym c.is_dead.ensures ∙ c.if-is_dead.false) (subst (λ (o : Option ℕ). IsEntered c.args.dfa.now c.enter.new.cache c.args.point.now o) c.in-Ok-Some.field-0-is c.in-Ok-Some.ensures.entered)
