use Rattle.std.proofs.Common.{ℕ, ◌≤◌, ap, subst, sym, ◌∙◌}
use Rattle.nfa_core.specs.NameSets.{NameSetValue}
use Rattle.nfa_core.specs.States.{node_of}
use Rattle.determinize_core.proofs.WalkingLemmas.{as_many}
use Rattle.determinize_core.proofs.walking.walk_counted.Goals as goal

pub new-requires : goal.new-requires
new-requires g c = subst (λ (n : ℕ). n ≤ 2147483647) (sym (as_many node_of c.states.result.now c.args.nfa.now.automaton.states
    c.states.ensures)) c.is_sound.ensures.states_numbered

pub walk_with-states-requires-clause-inside : goal.walk_with-states-requires-clause-inside
walk_with-states-requires-clause-inside g c = c.requires.inside

pub walk_with-states-requires-clause-bound1 : goal.walk_with-states-requires-clause-bound1
walk_with-states-requires-clause-bound1 g c = ap (λ (s : NameSetValue). s.bound) c.in_ok-sets.ensures.empty.0
    ∙ as_many node_of c.states.result.now c.args.nfa.now.automaton.states c.states.ensures

pub walk_with-states-requires-clause-bound2 : goal.walk_with-states-requires-clause-bound2
walk_with-states-requires-clause-bound2 g c = ap (λ (s : NameSetValue). s.bound) c.in_ok-sets.ensures.empty.1
    ∙ as_many node_of c.states.result.now c.args.nfa.now.automaton.states c.states.ensures

pub returns : goal.returns
returns g c = c.walk_with-states.ensures.states
