use Rattle.std.proofs.Common.{◌≡◌, length, arith, sym, ap, ◌∙◌}
use Rattle.nfa_core.specs.States.{is_epsilon}
use Rattle.determinize_core.proofs.ClosureLemmas.{item_at, item_below, passes_one, passes_all}
use Rattle.determinize_core.proofs.closure.meet_leaves.Goals as goal

pub state-requires : goal.state-requires
state-requires g c =
    item_below _ c.args.ids.now c.loop-k.k c.index-ids-k.result c.requires.below c.loop-k-test.true
    (item_at c.args.ids.now c.loop-k.k c.index-ids-k.result c.loop-k-test.true c.index-ids-k.is)

pub insert-requires : goal.insert-requires
insert-requires g c =
    let bound : g.S.NameSet.bound c.loop-k.set ≡ length c.args.nfa.now.automaton.states = c.loop-k.invariant.bound ∙ c.requires.bound in
    rw bound (item_below _ c.args.ids.now c.loop-k.k c.index-ids-k.result c.requires.below c.loop-k-test.true
    (item_at c.args.ids.now c.loop-k.k c.index-ids-k.result c.loop-k-test.true c.index-ids-k.is))

pub loop-k-preserved : goal.loop-k-preserved
loop-k-preserved g c = record {
  passes = λ looks. passes_one c.args.nfa.now.automaton looks c.args.ids.now (g.S.NameSet.names c.args.set.now) c.loop-k.k
      c.index-ids-k.result (g.S.NameSet.names c.loop-k.set) (g.S.NameSet.names c.insert.new.self) c.insert.result
      (c.loop-k.invariant.passes looks) c.loop-k-test.true
      (item_at c.args.ids.now c.loop-k.k c.index-ids-k.result c.loop-k-test.true c.index-ids-k.is)
      (ap is_epsilon (sym c.state.ensures) ∙ (sym c.is_epsilon.ensures ∙ c.if-is_epsilon.false)) c.insert.ensures.fresh
      c.insert.ensures.names;
  bound = c.insert.ensures.bound ∙ c.loop-k.invariant.bound;
  cost = omega (arith, c.insert.ensures.cost, c.loop-k.invariant.cost);
}

pub returns-clause-passes : goal.returns-clause-passes
returns-clause-passes g c =
    passes_all c.args.nfa.now.automaton c.args.ids.now (g.S.NameSet.names c.args.set.now) (g.S.NameSet.names c.loop-k.set) c.loop-k.k
    (length c.args.ids.now) c.loop-k.invariant.passes (omega (arith, c.loop-k-test.false, c.loop-k.auto.k-end))
