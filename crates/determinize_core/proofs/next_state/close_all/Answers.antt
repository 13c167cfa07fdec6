use Rattle.std.proofs.Common.{◌+◌, ◌<◌, ◌≤◌, length, drop, ◌∷◌, [], arith, ◌∙◌}
use Rattle.nfa_core.specs.Reached.{AreBelow}
use Rattle.nfa_core.proofs.ForCallers.{has_from_all}
use Rattle.determinize_core.proofs.AddedLemmas.{next_left, past_all}
use Rattle.determinize_core.proofs.CloseAllLemmas.{closes_more, closes_all, closes_cost, cut_cost}
use Rattle.determinize_core.proofs.next_state.close_all.Goals as goal

pub loop-k-preserved : goal.loop-k-preserved
loop-k-preserved g c =
    let within : c.loop-k.k < length (g.S.NameSet.names c.args.from.now) = omega (arith, c.loop-k-test.true, c.len-k-end.ensures.len) in
    let left = next_left (g.S.NameSet.names c.args.from.now) c.loop-k.k c.name.result within c.name.ensures in
    record {
      closes = closes_more c.args.nfa.now.automaton c.args.looks (g.S.NameSet.names c.args.from.now) c.args.steps.now
          (drop c.loop-k.k (g.S.NameSet.names c.args.from.now)) (g.S.NameSet.names c.loop-k.set) c.loop-k.k c.loop-k.steps
          c.loop-k.invariant.closes
          (c.name.result ∷ []) (drop (c.loop-k.k + 1) (g.S.NameSet.names c.args.from.now))
          (g.S.NameSet.names c.epsilon_closure.new.set) c.epsilon_closure.new.steps
          left c.in_ok-epsilon_closure.ensures.visits c.in_ok-epsilon_closure.ensures.cost;
      empty = c.in_ok-epsilon_closure.ensures.stack;
      bound = c.in_ok-epsilon_closure.ensures.bound ∙ c.loop-k.invariant.bound;
    }

pub returns-clause-closed : goal.returns-clause-closed
returns-clause-closed g c =
    let past : length (g.S.NameSet.names c.args.from.now) ≤ c.loop-k.k = omega (arith, c.loop-k-test.false, c.len-k-end.ensures.len) in
    let below : AreBelow (length c.args.nfa.now.automaton.states) (g.S.NameSet.names c.args.from.now) =
    rw (← c.requires.from) (has_from_all _ _ c.len-k-end.ensures.below) in
    closes_all c.args.nfa.now.automaton c.args.looks (g.S.NameSet.names c.args.from.now) c.args.steps.now
    (drop c.loop-k.k (g.S.NameSet.names c.args.from.now)) (g.S.NameSet.names c.loop-k.set) c.loop-k.k c.loop-k.steps
    c.loop-k.invariant.closes
    c.is_sound.ensures.named below (past_all (g.S.NameSet.names c.args.from.now) c.loop-k.k past)

pub returns-clause-cost : goal.returns-clause-cost
returns-clause-cost g c =
    let past : length (g.S.NameSet.names c.args.from.now) ≤ c.loop-k.k = omega (arith, c.loop-k-test.false, c.len-k-end.ensures.len) in
    let few : c.loop-k.k ≤ length (g.S.NameSet.names c.args.from.now) = omega (arith, c.loop-k.auto.k-end, c.len-k-end.ensures.len) in
    let below : AreBelow (length c.args.nfa.now.automaton.states) (g.S.NameSet.names c.args.from.now) =
    rw (← c.requires.from) (has_from_all _ _ c.len-k-end.ensures.below) in
    closes_cost c.args.nfa.now.automaton c.args.looks (g.S.NameSet.names c.args.from.now) c.args.steps.now
    (drop c.loop-k.k (g.S.NameSet.names c.args.from.now)) (g.S.NameSet.names c.loop-k.set) c.loop-k.k c.loop-k.steps
    c.loop-k.invariant.closes
    c.is_sound.ensures.named below (past_all (g.S.NameSet.names c.args.from.now) c.loop-k.k past)
    (length (g.S.NameSet.names c.args.from.now)) few

pub returns-in_err-epsilon_closure-clause-cost : goal.returns-in_err-epsilon_closure-clause-cost
returns-in_err-epsilon_closure-clause-cost g c =
    let few : c.loop-k.k + 1 ≤ length (g.S.NameSet.names c.args.from.now) = omega (arith, c.loop-k-test.true, c.len-k-end.ensures.len) in
    cut_cost c.args.nfa.now.automaton c.args.looks (g.S.NameSet.names c.args.from.now) c.args.steps.now
    (drop c.loop-k.k (g.S.NameSet.names c.args.from.now)) (g.S.NameSet.names c.loop-k.set) c.loop-k.k c.loop-k.steps
    c.loop-k.invariant.closes
    (g.S.NameSet.names c.epsilon_closure.new.set) c.epsilon_closure.new.steps (length (g.S.NameSet.names c.args.from.now))
    c.in_err-epsilon_closure.ensures.grows c.in_err-epsilon_closure.ensures.once c.in_err-epsilon_closure.ensures.below
    c.in_err-epsilon_closure.ensures.cost few
