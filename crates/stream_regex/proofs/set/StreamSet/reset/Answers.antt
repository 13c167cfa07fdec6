use Rattle.std.proofs.Common.{◌≢◌, ◌∙◌, None, Some, ap, refl, slice_set, subst, sym}
use Rattle.streams.specs.Streams.{fresh_stream}
use Rattle.streams.specs.declared.stream.Stream.{Stream}
use Rattle.stream_regex.specs.Sets.{IsSetAt, SetValue, stream_at}
use Rattle.stream_regex.proofs.SetLemmas.{changed_back, kept_streams}
use Rattle.stream_regex.proofs.set.StreamSet.reset.Goals as goal

pub invariant_of-self-2 : goal.invariant_of-self-2
invariant_of-self-2 c =
    kept_streams c.self.inside.automaton c.self.inside.streams.items c.take_at.new.streams.items c.put_at.new.streams.items c.args.number
    c.new.result c.self.invariant (c.new.ensures.own c.self.inside.automaton) c.take_at.ensures.left c.put_at.ensures

pub returns : goal.returns
returns c =
    subst (λ (v : SetValue). (stream_at v.streams c.args.number ≢ None) × IsSetAt v
    (record { dfa = c.self.inside.automaton; streams = c.put_at.new.streams.items; lines = c.self.inside.lines }) c.args.number (Some fresh_stream)) c.self.view_is
    (changed_back (record { dfa = c.self.inside.automaton; streams = c.self.inside.streams.items; lines = c.self.inside.lines })
    (record { dfa = c.self.inside.automaton; streams = c.put_at.new.streams.items; lines = c.self.inside.lines }) c.args.number c.in-Some.field-0 fresh_stream
    c.take_at.new.streams.items refl refl (sym c.take_at.ensures.taken ∙ c.in-Some.is) c.take_at.ensures.left
    (c.put_at.ensures ∙ ap (λ (s : Stream). slice_set c.take_at.new.streams.items c.args.number (Some s)) c.new.ensures.is))
