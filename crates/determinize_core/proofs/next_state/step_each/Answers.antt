use Rattle.std.proofs.Common.{ℕ, ◌+◌, ◌<◌, ◌≤◌, All, drop, length, refl, subst, ◌∙◌, arith}
use Rattle.search_core.specs.Units.{unit_byte}
use Rattle.determinize_core.proofs.AddedLemmas.{next_left, past_all}
use Rattle.determinize_core.proofs.EachLemmas.{target_refused, match_refused, step_begins, step_goes_on, stop_matches, stop_closed}
use Rattle.determinize_core.proofs.EachLemmas.{stop_cost, end_matches, end_closed, end_cost}
use Rattle.determinize_core.proofs.next_state.step_each.Goals as goal

pub loop-k-init : goal.loop-k-init
loop-k-init g c = record {
  at = step_begins c.args.kind c.args.nfa.now.automaton (unit_byte c.args.unit) c.args.looks
      (g.S.NameSet.names c.args.from.now) c.args.builder.now c.args.steps.now (g.S.NameSet.names c.args.from.now) refl
      (g.S.NameSet.names c.args.set.now) c.requires.none;
  empty = c.requires.empty;
  bound = refl;
}

pub loop-k-preserved : goal.loop-k-preserved
loop-k-preserved g c =
    let within : c.loop-k.k < length (g.S.NameSet.names c.args.from.now) = omega (arith, c.loop-k-test.true, c.len-k-end.ensures.len) in
    let left = next_left (g.S.NameSet.names c.args.from.now) c.loop-k.k c.name-id.result within c.name-id.ensures in
    record {
      at = step_goes_on c.args.kind c.args.nfa.now.automaton (unit_byte c.args.unit) c.args.looks
          (g.S.NameSet.names c.args.from.now) c.args.builder.now c.args.steps.now
          (drop c.loop-k.k (g.S.NameSet.names c.args.from.now)) (drop (c.loop-k.k + 1) (g.S.NameSet.names c.args.from.now))
          c.loop-k.k c.name-id.result c.loop-k.builder c.list_match.new.builder
          (g.S.NameSet.names c.loop-k.set) c.loop-k.steps c.loop-k.invariant.at left c.in_ok-last.ensures.listed
          (g.S.NameSet.names c.close_target.new.set) c.close_target.new.steps _ c.in_ok-last.ensures.stops c.if-last.false
          c.in_ok-close_target.ensures.visits c.in_ok-close_target.ensures.cost;
      empty = c.in_ok-close_target.ensures.stack;
      bound = c.in_ok-close_target.ensures.bound ∙ c.loop-k.invariant.bound;
    }

pub returns-then-last-clause-matches : goal.returns-then-last-clause-matches
returns-then-last-clause-matches g c =
    let within : c.loop-k.k < length (g.S.NameSet.names c.args.from.now) = omega (arith, c.loop-k-test.true, c.len-k-end.ensures.len) in
    let left = next_left (g.S.NameSet.names c.args.from.now) c.loop-k.k c.name-id.result within c.name-id.ensures in
    stop_matches c.args.kind c.args.nfa.now.automaton (unit_byte c.args.unit) c.args.looks
    (g.S.NameSet.names c.args.from.now) c.args.builder.now c.args.steps.now
    (drop c.loop-k.k (g.S.NameSet.names c.args.from.now)) (drop (c.loop-k.k + 1) (g.S.NameSet.names c.args.from.now))
    c.loop-k.k c.name-id.result c.loop-k.builder c.list_match.new.builder
    (g.S.NameSet.names c.loop-k.set) c.loop-k.steps c.loop-k.invariant.at left c.in_ok-last.ensures.listed
    c.requires.matches _ c.in_ok-last.ensures.stops c.if-last.true

pub returns-then-last-clause-closed : goal.returns-then-last-clause-closed
returns-then-last-clause-closed g c =
    let within : c.loop-k.k < length (g.S.NameSet.names c.args.from.now) = omega (arith, c.loop-k-test.true, c.len-k-end.ensures.len) in
    let left = next_left (g.S.NameSet.names c.args.from.now) c.loop-k.k c.name-id.result within c.name-id.ensures in
    stop_closed c.args.kind c.args.nfa.now.automaton (unit_byte c.args.unit) c.args.looks
    (g.S.NameSet.names c.args.from.now) c.args.builder.now c.args.steps.now
    (drop c.loop-k.k (g.S.NameSet.names c.args.from.now)) (drop (c.loop-k.k + 1) (g.S.NameSet.names c.args.from.now))
    c.loop-k.k c.name-id.result c.loop-k.builder c.list_match.new.builder
    (g.S.NameSet.names c.loop-k.set) c.loop-k.steps c.loop-k.invariant.at left c.in_ok-last.ensures.listed
    c.requires.matches _ c.in_ok-last.ensures.stops c.if-last.true c.is_sound.ensures.named

pub returns-then-last-clause-cost : goal.returns-then-last-clause-cost
returns-then-last-clause-cost g c =
    let within : c.loop-k.k < length (g.S.NameSet.names c.args.from.now) = omega (arith, c.loop-k-test.true, c.len-k-end.ensures.len) in
    let left = next_left (g.S.NameSet.names c.args.from.now) c.loop-k.k c.name-id.result within c.name-id.ensures in
    let cost = stop_cost c.args.kind c.args.nfa.now.automaton (unit_byte c.args.unit) c.args.looks
    (g.S.NameSet.names c.args.from.now) c.args.builder.now c.args.steps.now
    (drop c.loop-k.k (g.S.NameSet.names c.args.from.now)) (drop (c.loop-k.k + 1) (g.S.NameSet.names c.args.from.now))
    c.loop-k.k c.name-id.result c.loop-k.builder c.list_match.new.builder
    (g.S.NameSet.names c.loop-k.set) c.loop-k.steps c.loop-k.invariant.at left c.in_ok-last.ensures.listed
    c.requires.matches _ c.in_ok-last.ensures.stops c.if-last.true c.is_sound.ensures.named in
    omega (arith, cost, c.len-k-end.ensures.fits, c.requires.from)

pub returns-clause-matches : goal.returns-clause-matches
returns-clause-matches g c =
    let past : length (g.S.NameSet.names c.args.from.now) ≤ c.loop-k.k = omega (arith, c.loop-k-test.false, c.len-k-end.ensures.len) in
    end_matches c.args.kind c.args.nfa.now.automaton (unit_byte c.args.unit) c.args.looks
    (g.S.NameSet.names c.args.from.now) c.args.builder.now c.args.steps.now
    (drop c.loop-k.k (g.S.NameSet.names c.args.from.now))
    c.loop-k.k c.loop-k.builder (g.S.NameSet.names c.loop-k.set) c.loop-k.steps c.loop-k.invariant.at
    (past_all (g.S.NameSet.names c.args.from.now) c.loop-k.k past) c.requires.matches

pub returns-clause-closed : goal.returns-clause-closed
returns-clause-closed g c =
    let past : length (g.S.NameSet.names c.args.from.now) ≤ c.loop-k.k = omega (arith, c.loop-k-test.false, c.len-k-end.ensures.len) in
    end_closed c.args.kind c.args.nfa.now.automaton (unit_byte c.args.unit) c.args.looks
    (g.S.NameSet.names c.args.from.now) c.args.builder.now c.args.steps.now
    (drop c.loop-k.k (g.S.NameSet.names c.args.from.now))
    c.loop-k.k c.loop-k.builder (g.S.NameSet.names c.loop-k.set) c.loop-k.steps c.loop-k.invariant.at
    (past_all (g.S.NameSet.names c.args.from.now) c.loop-k.k past) c.is_sound.ensures.named

pub returns-clause-cost : goal.returns-clause-cost
returns-clause-cost g c =
    let past : length (g.S.NameSet.names c.args.from.now) ≤ c.loop-k.k = omega (arith, c.loop-k-test.false, c.len-k-end.ensures.len) in
    let cost = end_cost c.args.kind c.args.nfa.now.automaton (unit_byte c.args.unit) c.args.looks
    (g.S.NameSet.names c.args.from.now) c.args.builder.now c.args.steps.now
    (drop c.loop-k.k (g.S.NameSet.names c.args.from.now))
    c.loop-k.k c.loop-k.builder (g.S.NameSet.names c.loop-k.set) c.loop-k.steps c.loop-k.invariant.at
    (past_all (g.S.NameSet.names c.args.from.now) c.loop-k.k past) c.is_sound.ensures.named in
    omega (arith, cost, c.len-k-end.ensures.fits, c.requires.from)

-- if an allocation fails
pub returns-in_err-last-clause-cost : goal.returns-in_err-last-clause-cost
returns-in_err-last-clause-cost g c =
    let low : All (λ q. q < length c.args.nfa.now.automaton.states) (g.S.NameSet.names c.loop-k.set) =
    subst (λ (n : ℕ). All (λ q. q < n) (g.S.NameSet.names c.loop-k.set)) (c.loop-k.invariant.bound
    ∙ c.requires.bound) c.len.ensures.below in
    let cost = match_refused c.args.kind c.args.nfa.now.automaton (unit_byte c.args.unit) c.args.looks
    (g.S.NameSet.names c.args.from.now) c.args.builder.now c.args.steps.now
    (drop c.loop-k.k (g.S.NameSet.names c.args.from.now))
    c.loop-k.k c.loop-k.builder (g.S.NameSet.names c.loop-k.set) c.loop-k.steps c.loop-k.invariant.at c.len.ensures.distinct low in
    omega (arith, cost, c.len-k-end.ensures.fits, c.requires.from)

pub returns-in_err-close_target-clause-cost : goal.returns-in_err-close_target-clause-cost
returns-in_err-close_target-clause-cost g c =
    let within : c.loop-k.k < length (g.S.NameSet.names c.args.from.now) = omega (arith, c.loop-k-test.true, c.len-k-end.ensures.len) in
    let left = next_left (g.S.NameSet.names c.args.from.now) c.loop-k.k c.name-id.result within c.name-id.ensures in
    let cost = target_refused c.args.kind c.args.nfa.now.automaton (unit_byte c.args.unit) c.args.looks
    (g.S.NameSet.names c.args.from.now) c.args.builder.now c.args.steps.now
    (drop c.loop-k.k (g.S.NameSet.names c.args.from.now))
    c.loop-k.k c.loop-k.builder (g.S.NameSet.names c.loop-k.set) c.loop-k.steps c.loop-k.invariant.at
    c.name-id.result (drop (c.loop-k.k + 1) (g.S.NameSet.names c.args.from.now)) left
    (g.S.NameSet.names c.close_target.new.set) c.close_target.new.steps
    c.in_err-close_target.ensures.grows c.in_err-close_target.ensures.once c.in_err-close_target.ensures.below
    c.in_err-close_target.ensures.cost in
    omega (arith, cost, c.len-k-end.ensures.fits, c.requires.from)
