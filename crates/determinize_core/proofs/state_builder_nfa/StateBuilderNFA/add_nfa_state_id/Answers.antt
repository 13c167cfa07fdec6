use Rattle.std.proofs.Common.{◌≡◌, ℕ, ◌≤◌, [], ◌∷◌, ◌++◌, arith, ap, ◌∙◌}
use Rattle.search_core.specs.Index.{greatest_index}
use Rattle.determinize_core.specs.States.{StateValue, last_id}
use Rattle.determinize_core.specs.StateBytes.{decoded, groups, zigzag}
use Rattle.determinize_core.proofs.EditLemmas.{keeps_id}
use Rattle.determinize_core.proofs.state_builder_nfa.StateBuilderNFA.add_nfa_state_id.Goals as goal

pub invariant_of-self-2 : goal.invariant_of-self-2
invariant_of-self-2 c =
    let way : c.zigzag-way.result ≡ zigzag (last_id 0 (decoded c.self.inside.bytes.items).ids) c.args.id =
    c.zigzag-way.ensures ∙ (ap (λ (n : ℕ). zigzag n c.as_u32-2.result) (c.as_u32.ensures.value ∙ c.self.invariant.1)
    ∙ ap (λ (n : ℕ). zigzag (last_id 0 (decoded c.self.inside.bytes.items).ids) n) c.as_u32-2.ensures.value) in
    let small : c.args.id ≤ greatest_index = omega (arith, c.as_u32-2.ensures.in_range, c.as_u32-2.ensures.value) in
    let kept = keeps_id c.self.inside.bytes.items c.push_groups.new.bytes.items c.args.id c.self.invariant.0 small
    (c.in_ok-push_groups.ensures.ok ∙ ap (λ (n : ℕ). c.self.inside.bytes.items ++ groups 4 n) way) in
    (kept.0, kept.2)

pub returns-clause-ok : goal.returns-clause-ok
returns-clause-ok c =
    let way : c.zigzag-way.result ≡ zigzag (last_id 0 (decoded c.self.inside.bytes.items).ids) c.args.id =
    c.zigzag-way.ensures ∙ (ap (λ (n : ℕ). zigzag n c.as_u32-2.result) (c.as_u32.ensures.value ∙ c.self.invariant.1)
    ∙ ap (λ (n : ℕ). zigzag (last_id 0 (decoded c.self.inside.bytes.items).ids) n) c.as_u32-2.ensures.value) in
    let small : c.args.id ≤ greatest_index = omega (arith, c.as_u32-2.ensures.in_range, c.as_u32-2.ensures.value) in
    let kept = keeps_id c.self.inside.bytes.items c.push_groups.new.bytes.items c.args.id c.self.invariant.0 small
    (c.in_ok-push_groups.ensures.ok ∙ ap (λ (n : ℕ). c.self.inside.bytes.items ++ groups 4 n) way) in
    kept.1 ∙ ap (λ (v : StateValue). record v { ids = v.ids ++ c.args.id ∷ [] }) c.self.view_is
