use Rattle.std.proofs.Common.{◌≢◌, ◌∙◌, None, refl, subst, sym}
use Rattle.stream_regex.specs.Sets.{IsSetAt, SetValue, stream_at}
use Rattle.stream_regex.proofs.SetLemmas.{taken_out}
use Rattle.stream_regex.proofs.set.StreamSet.remove.Goals as goal

pub returns : goal.returns
returns c =
    subst (λ (v : SetValue). (stream_at v.streams c.args.number ≢ None) × IsSetAt v
    (record { dfa = c.self.inside.automaton; streams = c.take_at.new.streams.items; lines = c.self.inside.lines }) c.args.number None) c.self.view_is
    (taken_out (record { dfa = c.self.inside.automaton; streams = c.self.inside.streams.items; lines = c.self.inside.lines })
    (record { dfa = c.self.inside.automaton; streams = c.take_at.new.streams.items; lines = c.self.inside.lines }) c.args.number c.in-Some.field-0 refl refl
    (sym c.take_at.ensures.taken ∙ c.in-Some.is) c.take_at.ensures.left)
