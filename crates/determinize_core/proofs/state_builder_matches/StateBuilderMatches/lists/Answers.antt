use Rattle.std.proofs.Common.{ℕ, ap, sym, ◌∙◌}
use Rattle.determinize_core.specs.States.{StateValue}
use Rattle.determinize_core.specs.Positions.{stands_at}
use Rattle.determinize_core.proofs.PositionLemmas.{noted_same, second_tells}
use Rattle.determinize_core.proofs.state_builder_matches.StateBuilderMatches.lists.Goals as goal

pub returns-else-lists_at : goal.returns-else-lists_at
returns-else-lists_at c =
    let same = ap (λ (v : StateValue). v.matches) (sym c.self.view_is) in
    let at = noted_same c.self.inside.positions.noted.items _ c.args.self.now.matches same c.self.invariant.1 in
    let other = sym c.lists_at.ensures ∙ c.if-lists_at.false in
    c.lists_at-else-lists_at.ensures
    ∙ (ap (λ (i : ℕ). stands_at c.args.self.now.matches i c.args.pid) c.position.ensures
    ∙ second_tells c.self.inside.positions.noted.items c.args.self.now.matches c.args.pid at other)
