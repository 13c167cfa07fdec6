use Rattle.std.proofs.Common.{ℕ, ◌+◌, ◌<◌, ◌≤◌, All, List, length, refl, sym, subst, ◌∙◌, arith}
use Rattle.search_core.specs.Units.{unit_byte}
use Rattle.nfa_core.specs.Reached.{AreBelow}
use Rattle.nfa_core.proofs.ForCallers.{has_from_all, taken_below, left_below}
use Rattle.determinize_core.proofs.CloseAllLemmas.{few_once}
use Rattle.determinize_core.proofs.EachLemmas.{target_refused, match_refused, step_begins, step_goes_on, stop_matches, stop_closed}
use Rattle.determinize_core.proofs.EachLemmas.{stop_cost, end_matches, end_closed, end_cost}
use Rattle.determinize_core.proofs.next_state.step_ids.Goals as goal

pub loop-id-init : goal.loop-id-init
loop-id-init g c =
    let all = c.into_iter-id-iterator.ensures.into_iter_gives ∙ c.iter_nfa_state_ids-id-items.ensures in
    record {
      at = (
        0,
        step_begins c.args.kind c.args.nfa.now.automaton (unit_byte c.args.unit) c.args.looks
            c.args.state.now.ids c.args.builder.now c.args.steps.now c.into_iter-id-iterator.result all
            (g.S.NameSet.names c.args.set.now) c.requires.none,
      );
      below = subst (λ (xs : List ℕ). AreBelow (length c.args.nfa.now.automaton.states) xs) (sym all)
          (has_from_all _ c.args.state.now.ids c.requires.state.below);
      empty = c.requires.empty;
      bound = refl;
    }

pub list_match-requires : goal.list_match-requires
list_match-requires g c = taken_below _ c.in-Some.id c.next.new.self c.loop-id.id-iterator c.in-Some.ensures.steps
    c.loop-id.invariant.below

pub close_target-requires-clause-inside : goal.close_target-requires-clause-inside
close_target-requires-clause-inside g c = taken_below _ c.in-Some.id c.next.new.self c.loop-id.id-iterator c.in-Some.ensures.steps
    c.loop-id.invariant.below

pub loop-id-preserved : goal.loop-id-preserved
loop-id-preserved g c = record {
  at = (
    c.loop-id.invariant.at.0 + 1,
    step_goes_on c.args.kind c.args.nfa.now.automaton (unit_byte c.args.unit) c.args.looks
        c.args.state.now.ids c.args.builder.now c.args.steps.now c.loop-id.id-iterator c.next.new.self
        c.loop-id.invariant.at.0 c.in-Some.id c.loop-id.builder c.list_match.new.builder
        (g.S.NameSet.names c.loop-id.set) c.loop-id.steps c.loop-id.invariant.at.1 c.in-Some.ensures.steps c.in_ok-last.ensures.listed
        (g.S.NameSet.names c.close_target.new.set) c.close_target.new.steps _ c.in_ok-last.ensures.stops c.if-last.false
        c.in_ok-close_target.ensures.visits c.in_ok-close_target.ensures.cost,
  );
  below = left_below _ c.in-Some.id c.next.new.self c.loop-id.id-iterator c.in-Some.ensures.steps c.loop-id.invariant.below;
  empty = c.in_ok-close_target.ensures.stack;
  bound = c.in_ok-close_target.ensures.bound ∙ c.loop-id.invariant.bound;
}

pub returns-then-last-clause-matches : goal.returns-then-last-clause-matches
returns-then-last-clause-matches g c =
    stop_matches c.args.kind c.args.nfa.now.automaton (unit_byte c.args.unit) c.args.looks
    c.args.state.now.ids c.args.builder.now c.args.steps.now c.loop-id.id-iterator c.next.new.self
    c.loop-id.invariant.at.0 c.in-Some.id c.loop-id.builder c.list_match.new.builder
    (g.S.NameSet.names c.loop-id.set) c.loop-id.steps c.loop-id.invariant.at.1 c.in-Some.ensures.steps c.in_ok-last.ensures.listed
    c.requires.matches _ c.in_ok-last.ensures.stops c.if-last.true

pub returns-then-last-clause-closed : goal.returns-then-last-clause-closed
returns-then-last-clause-closed g c =
    stop_closed c.args.kind c.args.nfa.now.automaton (unit_byte c.args.unit) c.args.looks
    c.args.state.now.ids c.args.builder.now c.args.steps.now c.loop-id.id-iterator c.next.new.self
    c.loop-id.invariant.at.0 c.in-Some.id c.loop-id.builder c.list_match.new.builder
    (g.S.NameSet.names c.loop-id.set) c.loop-id.steps c.loop-id.invariant.at.1 c.in-Some.ensures.steps c.in_ok-last.ensures.listed
    c.requires.matches _ c.in_ok-last.ensures.stops c.if-last.true c.is_sound.ensures.named

pub returns-then-last-clause-cost : goal.returns-then-last-clause-cost
returns-then-last-clause-cost g c =
    let all : length c.args.state.now.ids ≤ length c.args.nfa.now.automaton.states =
    few_once _ c.args.state.now.ids c.requires.state.once (has_from_all _ c.args.state.now.ids c.requires.state.below) in
    let cost = stop_cost c.args.kind c.args.nfa.now.automaton (unit_byte c.args.unit) c.args.looks
    c.args.state.now.ids c.args.builder.now c.args.steps.now c.loop-id.id-iterator c.next.new.self
    c.loop-id.invariant.at.0 c.in-Some.id c.loop-id.builder c.list_match.new.builder
    (g.S.NameSet.names c.loop-id.set) c.loop-id.steps c.loop-id.invariant.at.1 c.in-Some.ensures.steps c.in_ok-last.ensures.listed
    c.requires.matches _ c.in_ok-last.ensures.stops c.if-last.true c.is_sound.ensures.named in
    omega (arith, cost, all)

pub returns-clause-matches : goal.returns-clause-matches
returns-clause-matches g c = end_matches c.args.kind c.args.nfa.now.automaton (unit_byte c.args.unit) c.args.looks
    c.args.state.now.ids c.args.builder.now c.args.steps.now c.loop-id.id-iterator
    c.loop-id.invariant.at.0 c.loop-id.builder (g.S.NameSet.names c.loop-id.set) c.loop-id.steps c.loop-id.invariant.at.1
    c.in-None.ensures.steps.0 c.requires.matches

pub returns-clause-closed : goal.returns-clause-closed
returns-clause-closed g c = end_closed c.args.kind c.args.nfa.now.automaton (unit_byte c.args.unit) c.args.looks
    c.args.state.now.ids c.args.builder.now c.args.steps.now c.loop-id.id-iterator
    c.loop-id.invariant.at.0 c.loop-id.builder (g.S.NameSet.names c.loop-id.set) c.loop-id.steps c.loop-id.invariant.at.1
    c.in-None.ensures.steps.0 c.is_sound.ensures.named

pub returns-clause-cost : goal.returns-clause-cost
returns-clause-cost g c =
    let all : length c.args.state.now.ids ≤ length c.args.nfa.now.automaton.states =
    few_once _ c.args.state.now.ids c.requires.state.once (has_from_all _ c.args.state.now.ids c.requires.state.below) in
    let cost = end_cost c.args.kind c.args.nfa.now.automaton (unit_byte c.args.unit) c.args.looks
    c.args.state.now.ids c.args.builder.now c.args.steps.now c.loop-id.id-iterator
    c.loop-id.invariant.at.0 c.loop-id.builder (g.S.NameSet.names c.loop-id.set) c.loop-id.steps c.loop-id.invariant.at.1
    c.in-None.ensures.steps.0 c.is_sound.ensures.named in
    omega (arith, cost, all)

-- if an allocation fails
pub returns-in_err-last-clause-cost : goal.returns-in_err-last-clause-cost
returns-in_err-last-clause-cost g c =
    let all : length c.args.state.now.ids ≤ length c.args.nfa.now.automaton.states =
    few_once _ c.args.state.now.ids c.requires.state.once (has_from_all _ c.args.state.now.ids c.requires.state.below) in
    let low : All (λ q. q < length c.args.nfa.now.automaton.states) (g.S.NameSet.names c.loop-id.set) =
    subst (λ (n : ℕ). All (λ q. q < n) (g.S.NameSet.names c.loop-id.set)) (c.loop-id.invariant.bound
    ∙ c.requires.bound) c.len.ensures.below in
    let cost = match_refused c.args.kind c.args.nfa.now.automaton (unit_byte c.args.unit) c.args.looks
    c.args.state.now.ids c.args.builder.now c.args.steps.now c.loop-id.id-iterator
    c.loop-id.invariant.at.0 c.loop-id.builder (g.S.NameSet.names c.loop-id.set) c.loop-id.steps c.loop-id.invariant.at.1
    c.len.ensures.distinct low in
    omega (arith, cost, all)

pub returns-in_err-close_target-clause-cost : goal.returns-in_err-close_target-clause-cost
returns-in_err-close_target-clause-cost g c =
    let all : length c.args.state.now.ids ≤ length c.args.nfa.now.automaton.states =
    few_once _ c.args.state.now.ids c.requires.state.once (has_from_all _ c.args.state.now.ids c.requires.state.below) in
    let cost = target_refused c.args.kind c.args.nfa.now.automaton (unit_byte c.args.unit) c.args.looks
    c.args.state.now.ids c.args.builder.now c.args.steps.now c.loop-id.id-iterator
    c.loop-id.invariant.at.0 c.loop-id.builder (g.S.NameSet.names c.loop-id.set) c.loop-id.steps c.loop-id.invariant.at.1
    c.in-Some.id c.next.new.self c.in-Some.ensures.steps
    (g.S.NameSet.names c.close_target.new.set) c.close_target.new.steps
    c.in_err-close_target.ensures.grows c.in_err-close_target.ensures.once c.in_err-close_target.ensures.below
    c.in_err-close_target.ensures.cost in
    omega (arith, cost, all)
