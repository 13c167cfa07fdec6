use Rattle.std.proofs.Common.{◌≡◌, ◌+◌, ap, ◌∙◌, length, reverse, arith}
use Rattle.nfa_core.proofs.ReachedLemmas.{taken_below, left_below, passes, meets}
use Rattle.nfa_core.proofs.stack.next_fresh.Goals as goal

pub insert-requires : goal.insert-requires
insert-requires g c =
    let bound : g.S.NameSet.bound c.loop-id.set ≡ g.S.NameSet.bound c.args.set.now = c.loop-id.invariant.bound in
    rw bound (taken_below (g.S.NameSet.bound c.args.set.now) c.in-Some.id (reverse c.pop.new.stack.items)
    (reverse c.loop-id.stack.items) c.in-Some.ensures.top c.loop-id.invariant.below)

pub returns-then-insert-clause-below : goal.returns-then-insert-clause-below
returns-then-insert-clause-below g c = left_below (g.S.NameSet.bound c.args.set.now) c.in-Some.id (reverse c.pop.new.stack.items)
    (reverse c.loop-id.stack.items) c.in-Some.ensures.top c.loop-id.invariant.below

pub returns-then-insert-clause-inside : goal.returns-then-insert-clause-inside
returns-then-insert-clause-inside g c = taken_below (g.S.NameSet.bound c.args.set.now) c.in-Some.id (reverse c.pop.new.stack.items)
    (reverse c.loop-id.stack.items) c.in-Some.ensures.top c.loop-id.invariant.below

pub returns-then-insert-clause-meets : goal.returns-then-insert-clause-meets
returns-then-insert-clause-meets g c =
    meets (reverse c.args.stack.now.items) (g.S.NameSet.names c.args.set.now) (reverse c.loop-id.stack.items)
    (g.S.NameSet.names c.loop-id.set) (reverse c.pop.new.stack.items) (g.S.NameSet.names c.insert.new.self) c.in-Some.id c.insert.result
    c.loop-id.invariant.names c.in-Some.ensures.top c.loop-id.invariant.walk c.insert.ensures.fresh c.insert.ensures.names c.if-insert.true

pub returns-then-insert-clause-cost : goal.returns-then-insert-clause-cost
returns-then-insert-clause-cost g c =
    let len : length (reverse c.loop-id.stack.items) ≡ 1 + length (reverse c.pop.new.stack.items) =
    ap length c.in-Some.ensures.top ∙ omega arith in
    omega (arith, c.insert.ensures.cost, len, c.loop-id.invariant.cost)

pub loop-id-preserved : goal.loop-id-preserved
loop-id-preserved g c =
    let len : length (reverse c.loop-id.stack.items) ≡ 1 + length (reverse c.pop.new.stack.items) =
    ap length c.in-Some.ensures.top ∙ omega arith in
    let p = passes (reverse c.args.stack.now.items) (g.S.NameSet.names c.args.set.now) (reverse c.loop-id.stack.items)
    (g.S.NameSet.names c.loop-id.set) (reverse c.pop.new.stack.items) (g.S.NameSet.names c.insert.new.self) c.in-Some.id c.insert.result
    c.loop-id.invariant.names c.in-Some.ensures.top c.loop-id.invariant.walk c.insert.ensures.fresh c.insert.ensures.names
    c.if-insert.false in
    record {
      names = p.0;
      bound = c.insert.ensures.bound ∙ c.loop-id.invariant.bound;
      below = left_below (g.S.NameSet.bound c.args.set.now) c.in-Some.id (reverse c.pop.new.stack.items)
          (reverse c.loop-id.stack.items) c.in-Some.ensures.top c.loop-id.invariant.below;
      walk = p.1;
      cost = omega (arith, c.insert.ensures.cost, len, c.loop-id.invariant.cost);
    }
