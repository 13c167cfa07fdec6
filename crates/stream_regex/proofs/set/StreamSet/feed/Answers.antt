use Rattle.std.proofs.Common.{◌∙◌, refl, subst, sym}
use Rattle.stream_regex.specs.Sets.{IsFedAt, SetValue}
use Rattle.stream_regex.proofs.SetLemmas.{fed_at}
use Rattle.stream_regex.proofs.set.StreamSet.feed.Goals as goal

pub returns : goal.returns
returns c =
    let old : SetValue = record { dfa = c.self.inside.automaton; streams = c.self.inside.streams.items; lines = c.self.inside.lines } in
    let new : SetValue = record { dfa = c.feed-result.new.self; streams = c.put_at.new.streams.items; lines = c.self.inside.lines } in
    subst (λ (v : SetValue). IsFedAt v new c.args.number c.args.bytes.now c.args.rows.now c.feed-result.new.rows c.feed-result.result.0
    c.feed-result.result.1) c.self.view_is
    (fed_at old new c.args.number c.in-Some.stream c.feed-result.new.stream c.take_at.new.streams.items c.args.bytes.now c.args.rows.now
    c.feed-result.new.rows c.feed-result.result.0 c.feed-result.result.1 c.feed-result.ensures.same refl
    (sym c.take_at.ensures.taken ∙ c.in-Some.is) c.take_at.ensures.left c.put_at.ensures c.feed-result.ensures.fed)
