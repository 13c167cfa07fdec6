use Rattle.std.proofs.Common.{ℕ, ◌∷◌, [], ap, ◌∙◌}
use Rattle.determinize_core.specs.Steps.{closed}
use Rattle.determinize_core.proofs.StartingLemmas.{one_closed, start_costs}
use Rattle.determinize_core.proofs.starting.close_start.Goals as goal

pub returns-in_err-epsilon_closure-clause-cost : goal.returns-in_err-epsilon_closure-clause-cost
returns-in_err-epsilon_closure-clause-cost g c =
    start_costs c.args.nfa.now.automaton c.look_have-looks.result (g.S.NameSet.names c.args.set.now)
    (g.S.NameSet.names c.epsilon_closure.new.set) c.requires.none
    c.in_err-epsilon_closure.ensures.once c.in_err-epsilon_closure.ensures.below c.args.steps.now c.epsilon_closure.new.steps
    c.in_err-epsilon_closure.ensures.cost

pub returns-clause-closed : goal.returns-clause-closed
returns-clause-closed g c =
    one_closed c.args.nfa.now.automaton c.is_sound.ensures.named c.args.id c.requires.inside c.look_have-looks.result
    (g.S.NameSet.names c.args.set.now) (g.S.NameSet.names c.epsilon_closure.new.set)
    c.requires.none c.in_ok-epsilon_closure.ensures.visits
    ∙ ap (λ (l : ℕ). closed c.args.nfa.now.automaton l (c.args.id ∷ [])) c.look_have-looks.ensures

pub returns-clause-cost : goal.returns-clause-cost
returns-clause-cost g c =
    start_costs c.args.nfa.now.automaton c.look_have-looks.result (g.S.NameSet.names c.args.set.now)
    (g.S.NameSet.names c.epsilon_closure.new.set) c.requires.none
    c.in_ok-epsilon_closure.ensures.once c.in_ok-epsilon_closure.ensures.below c.args.steps.now c.epsilon_closure.new.steps
    c.in_ok-epsilon_closure.ensures.cost
