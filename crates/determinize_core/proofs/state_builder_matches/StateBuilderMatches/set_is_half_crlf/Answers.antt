use Rattle.std.proofs.Common.{ap, ◌∙◌, true}
use Rattle.determinize_core.specs.States.{StateValue}
use Rattle.determinize_core.proofs.EditLemmas.{keeps_half}
use Rattle.determinize_core.proofs.PositionLemmas.{noted_same}
use Rattle.determinize_core.proofs.state_builder_matches.StateBuilderMatches.set_is_half_crlf.Goals as goal

pub invariant_of-self : goal.invariant_of-self
invariant_of-self c =
    let kept = keeps_half c.self.inside.bytes.items c.set_flag.new.bytes.items c.self.invariant.0 c.set_flag.ensures in
    (kept.0, noted_same c.self.inside.positions.noted.items _ _ (ap (λ (v : StateValue). v.matches) kept.1) c.self.invariant.1)

pub returns : goal.returns
returns c = (keeps_half c.self.inside.bytes.items c.set_flag.new.bytes.items c.self.invariant.0 c.set_flag.ensures).1
    ∙ ap (λ (v : StateValue). record v { is_half_crlf = true }) c.self.view_is
