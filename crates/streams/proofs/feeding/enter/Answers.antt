use Rattle.std.proofs.Common.{◌∙◌, ℕ, Option, subst, sym}
use Rattle.streams.specs.Feeding.{IsNamed}
use Rattle.streams.proofs.FeedLemmas.{dead_entered}
use Rattle.streams.proofs.feeding.enter.Goals as goal

pub returns-then-is_dead-clause-entered : goal.returns-then-is_dead-clause-entered
returns-then-is_dead-clause-entered g c =
    dead_entered c.args.dfa.now c.state_id.new.cache c.in-Ok-Some.id c.in-Ok-Some.ensures.own.shape c.args.point.now
    (sym c.is_dead.ensures ∙ c.if-is_dead.true)
    (subst (λ (o : Option ℕ). IsNamed c.args.dfa.now c.state_id.new.cache c.args.point.now o) c.in-Ok-Some.field-0-is
    c.in-Ok-Some.ensures.named)
