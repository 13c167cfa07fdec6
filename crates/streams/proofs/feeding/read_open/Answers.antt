use Rattle.std.proofs.Common.{ℕ, Option, subst, sym}
use Rattle.streams.specs.Feeding.{IsEntered}
use Rattle.streams.specs.Reading.{IsPieceRead}
use Rattle.streams.specs.declared.stream.Stream.{Stream}
use Rattle.streams.proofs.CallLemmas.{alive_begun, dead_open}
use Rattle.streams.proofs.feeding.read_open.Goals as goal

pub returns-in-Ok-None-clause-read : goal.returns-in-Ok-None-clause-read
returns-in-Ok-None-clause-read g c =
    dead_open c.args.dfa.now c.enter.new.cache c.args.point.now c.args.offset c.args.bytes.now c.args.rows.now c.requires.is_open c.requires.point
    (subst (λ (o : Option ℕ). IsEntered c.args.dfa.now c.enter.new.cache c.args.point.now o) c.in-Ok-None.field-0-is c.in-Ok-None.ensures.entered)

pub returns-in-Ok-clause-read : goal.returns-in-Ok-clause-read
returns-in-Ok-clause-read g c =
    let here = alive_begun c.args.dfa.now c.enter.new.cache c.in-Ok-Some.id c.args.offset c.args.point.now c.in-Ok-Some.ensures.own
    (subst (λ (o : Option ℕ). IsEntered c.args.dfa.now c.enter.new.cache c.args.point.now o) c.in-Ok-Some.field-0-is c.in-Ok-Some.ensures.entered) in
    subst (λ (s : Stream). IsPieceRead c.args.dfa.now s c.args.bytes.now c.args.rows.now c.read_piece.new.rows c.in-Ok.read) (sym here.2)
    (c.in-Ok.ensures.read here.0 here.1)
