use Rattle.std.proofs.Common.{reverse, refl, ap}
use Rattle.nfa_core.specs.States.{node_of}
use Rattle.determinize_core.proofs.ClosureLemmas.{goes_by_stack, goes_by_leaves, union_below, union_ways, adds_none}
use Rattle.determinize_core.proofs.closure.follow.Goals as goal

pub meet_leaves-met-requires-clause-below : goal.meet_leaves-met-requires-clause-below
meet_leaves-met-requires-clause-below g c =
    union_below c.args.nfa.now.automaton c.is_sound.ensures.named c.args.id (node_of c.state-state.result.now) c.in-Union.alternates.items
    c.as_slice-names.result.now c.state-state.ensures (ap node_of c.in-Union.is) c.as_slice-names.ensures.value

pub returns-in_err-push_all-clause-grows : goal.returns-in_err-push_all-clause-grows
returns-in_err-push_all-clause-grows g c = (c.meet_leaves-met.ensures.passes c.args.look_have).grown

pub returns-in-Union-clause-grows : goal.returns-in-Union-clause-grows
returns-in-Union-clause-grows g c = (c.meet_leaves-met.ensures.passes c.args.look_have).grown

pub returns-in-Union-clause-goes : goal.returns-in-Union-clause-goes
returns-in-Union-clause-goes g c =
    goes_by_leaves c.args.nfa.now.automaton c.args.look_have c.args.id (reverse c.args.stack.now.items) (g.S.NameSet.names c.args.set.now)
    c.args.steps.now c.as_slice-names.result.now c.meet_leaves-met.result (g.S.NameSet.names c.meet_leaves-met.new.set) _
    (reverse c.push_all.new.stack.items) c.meet_leaves-met.new.steps
    (union_ways c.args.nfa.now.automaton c.args.look_have c.args.id (node_of c.state-state.result.now) c.in-Union.alternates.items
    c.as_slice-names.result.now c.state-state.ensures (ap node_of c.in-Union.is) c.as_slice-names.ensures.value)
    c.meet_leaves-met.ensures.within (c.meet_leaves-met.ensures.passes c.args.look_have) refl c.in_ok-push_all.ensures.ok
    c.meet_leaves-met.ensures.cost

pub returns-in_err-push_ways-clause-grows : goal.returns-in_err-push_ways-clause-grows
returns-in_err-push_ways-clause-grows g c = adds_none c.args.nfa.now.automaton c.args.look_have (g.S.NameSet.names c.args.set.now)

pub returns-clause-grows : goal.returns-clause-grows
returns-clause-grows g c = adds_none c.args.nfa.now.automaton c.args.look_have (g.S.NameSet.names c.args.set.now)

pub returns-clause-goes : goal.returns-clause-goes
returns-clause-goes g c =
    goes_by_stack c.args.nfa.now.automaton c.args.look_have c.args.id (reverse c.args.stack.now.items) (g.S.NameSet.names c.args.set.now)
    c.args.steps.now (node_of c.state-state.result.now) (reverse c.push_ways.new.stack.items) c.state-state.ensures
    c.in_ok-push_ways.ensures
