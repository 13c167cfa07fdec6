use Rattle.std.proofs.Common.{ap, ◌∙◌, true}
use Rattle.determinize_core.specs.States.{StateValue}
use Rattle.determinize_core.proofs.EditLemmas.{keeps_word}
use Rattle.determinize_core.proofs.PositionLemmas.{noted_same}
use Rattle.determinize_core.proofs.state_builder_matches.StateBuilderMatches.set_is_from_word.Goals as goal

pub invariant_of-self : goal.invariant_of-self
invariant_of-self c =
    let kept = keeps_word c.self.inside.bytes.items c.set_flag.new.bytes.items c.self.invariant.0 c.set_flag.ensures in
    (kept.0, noted_same c.self.inside.positions.noted.items _ _ (ap (λ (v : StateValue). v.matches) kept.1) c.self.invariant.1)

pub returns : goal.returns
returns c = (keeps_word c.self.inside.bytes.items c.set_flag.new.bytes.items c.self.invariant.0 c.set_flag.ensures).1
    ∙ ap (λ (v : StateValue). record v { is_from_word = true }) c.self.view_is
