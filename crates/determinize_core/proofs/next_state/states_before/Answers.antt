use Rattle.std.proofs.Common.{refl, ap, ◌∙◌, ◌≤◌, length, arith}
use Rattle.search_core.specs.Units.{unit_byte}
use Rattle.nfa_core.proofs.ForCallers.{has_from_all}
use Rattle.determinize_core.proofs.CloseAllLemmas.{few_once}
use Rattle.determinize_core.proofs.NextLemmas.{before_without_looks, before_same, before_gained, put_few}
use Rattle.determinize_core.proofs.next_state.states_before.Goals as goal

pub returns-then-is_empty-clause-ids : goal.returns-then-is_empty-clause-ids
returns-then-is_empty-clause-ids g c =
    before_without_looks c.args.nfa.now.automaton c.args.nfa.now.terminator c.args.state.now (unit_byte c.args.unit) c.requires.state.once
    (g.S.NameSet.names c.put_ids.new.set) c.put_ids.ensures.names c.look_need.result c.look_need.ensures (c.if-is_empty.ensures.0 refl)

pub returns-then-is_empty-clause-cost : goal.returns-then-is_empty-clause-cost
returns-then-is_empty-clause-cost g c =
    let all : length c.args.state.now.ids ≤ length c.args.nfa.now.automaton.states =
    few_once _ c.args.state.now.ids c.requires.state.once (has_from_all _ c.args.state.now.ids c.requires.state.below) in
    omega (arith, c.put_ids.ensures.cost, all)

pub returns-then-not-gains-clause-ids : goal.returns-then-not-gains-clause-ids
returns-then-not-gains-clause-ids g c =
    before_same c.args.nfa.now.automaton c.args.nfa.now.terminator c.args.state.now
    (unit_byte c.args.unit) c.requires.state.once c.known_before-looks.result c.known_before-looks.ensures
    (g.S.NameSet.names c.put_ids.new.set) c.put_ids.ensures.names c.gains.result c.gains.ensures c.if-not-gains.true

pub returns-then-not-gains-clause-cost : goal.returns-then-not-gains-clause-cost
returns-then-not-gains-clause-cost g c =
    let all : length c.args.state.now.ids ≤ length c.args.nfa.now.automaton.states =
    few_once _ c.args.state.now.ids c.requires.state.once (has_from_all _ c.args.state.now.ids c.requires.state.below) in
    omega (arith, c.put_ids.ensures.cost, all)

pub returns-clause-ids : goal.returns-clause-ids
returns-clause-ids g c =
    ap g.S.NameSet.names c.swap.ensures.set1 ∙ before_gained c.args.nfa.now.automaton c.args.nfa.now.terminator c.args.state.now
    (unit_byte c.args.unit) c.requires.state.once c.known_before-looks.result c.known_before-looks.ensures
    (g.S.NameSet.names c.put_ids.new.set) c.put_ids.ensures.names c.gains.result c.gains.ensures c.if-not-gains.false
    (g.S.NameSet.names c.close_all.new.set) c.in_ok-close_all.ensures.closed

pub returns-clause-cost : goal.returns-clause-cost
returns-clause-cost g c =
    let few = put_few c.args.nfa.now.automaton c.args.nfa.now.terminator c.args.state.now
    (unit_byte c.args.unit) c.requires.state.once c.known_before-looks.result c.known_before-looks.ensures
    (g.S.NameSet.names c.put_ids.new.set) c.put_ids.ensures.names c.gains.result c.gains.ensures c.requires.state.below in
    let all : length c.args.state.now.ids ≤ length c.args.nfa.now.automaton.states =
    few_once _ c.args.state.now.ids c.requires.state.once (has_from_all _ c.args.state.now.ids c.requires.state.below) in
    omega (arith, c.put_ids.ensures.cost, c.in_ok-close_all.ensures.cost, few, all)

pub returns-in_err-close_all-clause-cost : goal.returns-in_err-close_all-clause-cost
returns-in_err-close_all-clause-cost g c =
    let few = put_few c.args.nfa.now.automaton c.args.nfa.now.terminator c.args.state.now
    (unit_byte c.args.unit) c.requires.state.once c.known_before-looks.result c.known_before-looks.ensures
    (g.S.NameSet.names c.put_ids.new.set) c.put_ids.ensures.names c.gains.result c.gains.ensures c.requires.state.below in
    let all : length c.args.state.now.ids ≤ length c.args.nfa.now.automaton.states =
    few_once _ c.args.state.now.ids c.requires.state.once (has_from_all _ c.args.state.now.ids c.requires.state.below) in
    omega (arith, c.put_ids.ensures.cost, c.in_err-close_all.ensures.cost, few, all)
