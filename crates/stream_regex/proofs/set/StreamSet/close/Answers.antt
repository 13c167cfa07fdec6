use Rattle.std.proofs.Common.{◌∙◌, refl, subst, sym}
use Rattle.stream_regex.specs.Sets.{IsClosedAt, SetValue}
use Rattle.stream_regex.proofs.SetLemmas.{closed_at}
use Rattle.stream_regex.proofs.set.StreamSet.close.Goals as goal

pub returns : goal.returns
returns c =
    let old : SetValue = record { dfa = c.self.inside.automaton; streams = c.self.inside.streams.items; lines = c.self.inside.lines } in
    let new : SetValue = record { dfa = c.close-count.new.self; streams = c.put_at.new.streams.items; lines = c.self.inside.lines } in
    subst (λ (v : SetValue). IsClosedAt v new c.args.number c.args.rows.now c.close-count.new.rows c.close-count.result.0
    c.close-count.result.1) c.self.view_is
    (closed_at old new c.args.number c.in-Some.stream c.close-count.new.stream c.take_at.new.streams.items c.args.rows.now
    c.close-count.new.rows c.close-count.result.0 c.close-count.result.1 c.close-count.ensures.same refl
    (sym c.take_at.ensures.taken ∙ c.in-Some.is) c.take_at.ensures.left c.put_at.ensures c.close-count.ensures.closed)
