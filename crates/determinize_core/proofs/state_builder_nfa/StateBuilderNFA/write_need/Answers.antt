use Rattle.std.proofs.Common.{ℕ, ap, sym, ◌∙◌}
use Rattle.determinize_core.specs.States.{StateValue, last_id}
use Rattle.determinize_core.proofs.EditLemmas.{keeps_need}
use Rattle.determinize_core.proofs.state_builder_nfa.StateBuilderNFA.write_need.Goals as goal

pub invariant_of-self : goal.invariant_of-self
invariant_of-self c =
    let kept = keeps_need c.self.inside.bytes.items c.write_number.new.bytes.items c.bits.result c.self.invariant.0 c.bits.ensures.in_range
    c.write_number.ensures in
    (kept.0, c.self.invariant.1 ∙ ap (λ (v : StateValue). last_id 0 v.ids) (sym kept.1))

pub returns : goal.returns
returns c =
    let kept = keeps_need c.self.inside.bytes.items c.write_number.new.bytes.items c.bits.result c.self.invariant.0 c.bits.ensures.in_range
    c.write_number.ensures in
    kept.1 ∙ (ap (λ (v : StateValue). record v { look_need = c.bits.result }) c.self.view_is
    ∙ ap (λ (n : ℕ). record c.args.self.now { look_need = n }) c.bits.ensures.value)
