use Rattle.std.proofs.Common.{ap, refl, get_or, ◌++◌, ◌∙◌, length, arith}
use Rattle.search_core.specs.Units.{unit_byte}
use Rattle.determinize_core.specs.Steps.{step_value}
use Rattle.determinize_core.specs.WalkLists.{walked, units_of}
use Rattle.determinize_core.proofs.WalkingLemmas.{walks_on, walk_ends, behind_below, behind_once, cost_on}
use Rattle.determinize_core.proofs.walking.walk_on.Goals as goal

pub loop-k-init : goal.loop-k-init
loop-k-init g c = record {
  walked = refl;
  below = c.requires.below;
  once = c.requires.once;
  empty = c.requires.empty;
  bound1 = c.requires.bound1;
  bound2 = c.requires.bound2;
  cost = omega arith;
}

pub loop-k-preserved : goal.loop-k-preserved
loop-k-preserved g c = record {
  walked = walks_on c.args.nfa.now.automaton c.args.nfa.now.terminator c.args.kind c.args.bytes.now
      (c.args.states.now.items ++ walked c.args.nfa.now.automaton c.args.nfa.now.terminator c.args.kind c.args.first
      (units_of c.args.bytes.now)) c.loop-k.states.items
      c.loop-k.last c.loop-k.k c.loop-k.invariant.walked
      (get_or c.args.bytes.now c.loop-k.k 0) (unit_byte c.u8-unit.result) c.in_ok-behind.behind c.step_on.new.states.items
      c.loop-k-test.true refl (ap unit_byte c.u8-unit.ensures) c.in_ok-behind.ensures.value c.in_ok-behind.ensures.states;
  below = behind_below c.args.nfa.now.automaton c.args.nfa.now.terminator c.args.kind c.loop-k.last
      (unit_byte c.u8-unit.result) c.in_ok-behind.behind c.in_ok-behind.ensures.value c.is_sound.ensures.named;
  once = behind_once c.args.nfa.now.automaton c.args.nfa.now.terminator c.args.kind c.loop-k.last
      (unit_byte c.u8-unit.result) c.in_ok-behind.behind c.in_ok-behind.ensures.value;
  empty = c.in_ok-behind.ensures.stack;
  bound1 = c.in_ok-behind.ensures.sets.bound1;
  bound2 = c.in_ok-behind.ensures.sets.bound2;
  cost = cost_on c.args.nfa.now.automaton c.args.steps.now c.loop-k.steps c.step_on.new.steps c.loop-k.k c.loop-k.k
      c.loop-k.invariant.cost c.step_on.ensures.cost (omega arith);
}

pub returns-clause-states : goal.returns-clause-states
returns-clause-states g c =
    walk_ends c.args.nfa.now.automaton c.args.nfa.now.terminator c.args.kind c.args.bytes.now
    (c.args.states.now.items ++ walked c.args.nfa.now.automaton c.args.nfa.now.terminator c.args.kind c.args.first
    (units_of c.args.bytes.now))
    c.loop-k.states.items c.loop-k.last c.loop-k.k c.loop-k.invariant.walked
    c.in_ok-end.end c.step_on-2.new.states.items c.push.new.self.items c.loop-k-test.false
    (c.in_ok-end.ensures.value ∙ ap (step_value c.args.nfa.now.automaton c.args.nfa.now.terminator c.args.kind c.loop-k.last)
    (ap unit_byte c.eoi-unit.ensures)) c.in_ok-end.ensures.states c.in_ok-push.ensures.items

pub returns-in_err-behind-clause-cost : goal.returns-in_err-behind-clause-cost
returns-in_err-behind-clause-cost g c =
    cost_on c.args.nfa.now.automaton c.args.steps.now c.loop-k.steps c.step_on.new.steps c.loop-k.k (length c.args.bytes.now)
    c.loop-k.invariant.cost c.step_on.ensures.cost (omega arith)

pub returns-in_err-end-clause-cost : goal.returns-in_err-end-clause-cost
returns-in_err-end-clause-cost g c =
    cost_on c.args.nfa.now.automaton c.args.steps.now c.loop-k.steps c.step_on-2.new.steps c.loop-k.k (length c.args.bytes.now)
    c.loop-k.invariant.cost c.step_on-2.ensures.cost (omega arith)

pub returns-in_err-push-clause-cost : goal.returns-in_err-push-clause-cost
returns-in_err-push-clause-cost g c =
    cost_on c.args.nfa.now.automaton c.args.steps.now c.loop-k.steps c.step_on-2.new.steps c.loop-k.k (length c.args.bytes.now)
    c.loop-k.invariant.cost c.step_on-2.ensures.cost (omega arith)

pub returns-clause-cost : goal.returns-clause-cost
returns-clause-cost g c =
    cost_on c.args.nfa.now.automaton c.args.steps.now c.loop-k.steps c.step_on-2.new.steps c.loop-k.k (length c.args.bytes.now)
    c.loop-k.invariant.cost c.step_on-2.ensures.cost (omega arith)

pub step_on-requires-clause-sets : goal.step_on-requires-clause-sets
step_on-requires-clause-sets g c = record { bound1 = c.loop-k.invariant.bound1; bound2 = c.loop-k.invariant.bound2 }

pub step_on-requires-clause-state : goal.step_on-requires-clause-state
step_on-requires-clause-state g c = record { below = c.loop-k.invariant.below; once = c.loop-k.invariant.once }

pub step_on-requires-clause-empty : goal.step_on-requires-clause-empty
step_on-requires-clause-empty g c = c.loop-k.invariant.empty

pub step_on-requires-2-clause-sets : goal.step_on-requires-2-clause-sets
step_on-requires-2-clause-sets g c = record { bound1 = c.loop-k.invariant.bound1; bound2 = c.loop-k.invariant.bound2 }

pub step_on-requires-2-clause-state : goal.step_on-requires-2-clause-state
step_on-requires-2-clause-state g c = record { below = c.loop-k.invariant.below; once = c.loop-k.invariant.once }

pub step_on-requires-2-clause-empty : goal.step_on-requires-2-clause-empty
step_on-requires-2-clause-empty g c = c.loop-k.invariant.empty

pub returns-in_err-behind-clause-bound1 : goal.returns-in_err-behind-clause-bound1
returns-in_err-behind-clause-bound1 g c = c.step_on.ensures.sets.bound1

pub returns-in_err-behind-clause-bound2 : goal.returns-in_err-behind-clause-bound2
returns-in_err-behind-clause-bound2 g c = c.step_on.ensures.sets.bound2

pub returns-in_err-end-clause-bound1 : goal.returns-in_err-end-clause-bound1
returns-in_err-end-clause-bound1 g c = c.step_on-2.ensures.sets.bound1

pub returns-in_err-end-clause-bound2 : goal.returns-in_err-end-clause-bound2
returns-in_err-end-clause-bound2 g c = c.step_on-2.ensures.sets.bound2

pub returns-in_err-push-clause-bound1 : goal.returns-in_err-push-clause-bound1
returns-in_err-push-clause-bound1 g c = c.step_on-2.ensures.sets.bound1

pub returns-in_err-push-clause-bound2 : goal.returns-in_err-push-clause-bound2
returns-in_err-push-clause-bound2 g c = c.step_on-2.ensures.sets.bound2

pub returns-clause-bound1 : goal.returns-clause-bound1
returns-clause-bound1 g c = c.step_on-2.ensures.sets.bound1

pub returns-clause-bound2 : goal.returns-clause-bound2
returns-clause-bound2 g c = c.step_on-2.ensures.sets.bound2
