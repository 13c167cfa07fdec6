use Rattle.std.proofs.Common.{ℕ, ◌-◌, ◌/◌, List, true, arith, ap, sym, ◌∙◌}
use Rattle.std.specs.Prelude.{slice_index}
use Rattle.determinize_core.specs.States.{StateValue}
use Rattle.determinize_core.specs.StateBytes.{has_flag, is_listed}
use Rattle.determinize_core.proofs.AddLemmas.{count_built, unfinished_listed}
use Rattle.determinize_core.proofs.EditLemmas.{count_fits}
use Rattle.determinize_core.proofs.state_builder_matches.StateBuilderMatches.count.Goals as goal

pub overflow_cast-result : goal.overflow_cast-result
overflow_cast-result c =
    let flag = sym (ap (λ (xs : List ℕ). has_flag (slice_index xs 0) 2) c.deref.ensures.value)
    ∙ (sym c.has_flag.ensures ∙ c.if-has_flag.true) in
    let fits = count_fits c.self.inside.bytes.items c.self.invariant.0 flag in
    omega (arith, fits, c.len.ensures, c.self.inside.bytes.ok.0)

pub returns-then-has_flag : goal.returns-then-has_flag
returns-then-has_flag c =
    let flag = sym (ap (λ (xs : List ℕ). has_flag (slice_index xs 0) 2) c.deref.ensures.value)
    ∙ (sym c.has_flag.ensures ∙ c.if-has_flag.true) in
    let listed = ap (λ (v : StateValue). is_listed v.matches) (sym c.self.view_is)
    ∙ unfinished_listed c.self.inside.bytes.items true c.self.invariant.0 flag in
    ap (λ (n : ℕ). (n - 13) / 4) (c.len.ensures ∙ c.self.inside.bytes.ok.0)
    ∙ count_built c.args.self.now c.self.inside.bytes.items c.self.view_is c.self.invariant.0 listed
