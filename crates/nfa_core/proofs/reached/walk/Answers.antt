use Rattle.std.proofs.Common.{◌≡◌, ◌∙◌, ◌++◌, ◌∷◌, ◌<◌, ◌≤◌, ◌+◌, ◌-◌, [], ℕ, ap, sym}
use Rattle.std.proofs.Common.{subst, length, length-append, reverse, rules, arith, true}
use Rattle.nfa_core.specs.Nfa.{node_at}
use Rattle.nfa_core.specs.NfaParts.{automaton_in}
use Rattle.nfa_core.specs.States.{node_of}
use Rattle.nfa_core.specs.Ways.{on_nothing}
use Rattle.nfa_core.proofs.ReachedLemmas.{len_nodes, StandsAt, begins, goes_on, ends, met_below}
use Rattle.search_types.proofs.ForCallers.{failed}
use Rattle.nfa_core.proofs.reached.walk.Goals as goal

pub loop-id-init : goal.loop-id-init
loop-id-init g c =
    let bound : c.in_ok-set.set.bound ≡ length c.args.parts.now.states.items = search rules in
    let none : c.in_ok-set.set.names ≡ [] = search rules in
    let all : reverse c.push_all.new.stack.items ≡ c.args.parts.now.start_pattern.items ++ [] = search rules in
    record {
      bound = bound;
      fits = search rules;
      stands = begins (automaton_in c.args.parts.now) c.in_ok-set.set.bound (bound
          ∙ len_nodes c.args.parts.now.states.items) c.requires.sound
          (reverse c.push_all.new.stack.items) c.in_ok-set.set.names all none;
    }

pub loop-id-preserved : goal.loop-id-preserved
loop-id-preserved g c =
    let bound : c.next_fresh.new.set.bound ≡ c.loop-id.set.bound = c.in-Some.ensures.bound in
    let len : c.loop-id.set.bound ≡ length (automaton_in c.args.parts.now).states =
    c.loop-id.invariant.bound ∙ len_nodes c.args.parts.now.states.items in
    let is : node_of c.state_at.result.now ≡ node_at (automaton_in c.args.parts.now) c.in-Some.id = search rules in
    let ways : reverse c.push_ways.new.stack.items ≡ on_nothing (node_of c.state_at.result.now) (λ l. true)
    ++ reverse c.next_fresh.new.stack.items = search rules in
    let stands : StandsAt (automaton_in c.args.parts.now) c.loop-id.set.bound
    (reverse c.push_ways.new.stack.items) c.next_fresh.new.set.names =
    goes_on (automaton_in c.args.parts.now) c.loop-id.set.bound len c.requires.sound (reverse c.loop-id.stack.items) c.loop-id.set.names
    (reverse c.next_fresh.new.stack.items) c.next_fresh.new.set.names
    (reverse c.push_ways.new.stack.items) c.in-Some.id (node_of c.state_at.result.now) c.loop-id.invariant.stands c.in-Some.ensures.inside
    c.in-Some.ensures.below c.in-Some.ensures.meets is ways in
    record {
      bound = bound ∙ c.loop-id.invariant.bound;
      fits = c.in-Some.ensures.fits;
      stands = rw bound stands;
    }

pub returns-clause-names : goal.returns-clause-names
returns-clause-names g c =
    let len : c.loop-id.set.bound ≡ length (automaton_in c.args.parts.now).states =
    c.loop-id.invariant.bound ∙ len_nodes c.args.parts.now.states.items in
    ends (automaton_in c.args.parts.now) c.loop-id.set.bound len c.requires.sound (reverse c.loop-id.stack.items) c.loop-id.set.names
    (reverse c.next_fresh.new.stack.items)
    c.next_fresh.new.set.names
    c.loop-id.invariant.stands c.in_default.ensures.meets

pub returns-clause-below : goal.returns-clause-below
returns-clause-below g c =
    let len : c.loop-id.set.bound ≡ length (automaton_in c.args.parts.now).states =
    c.loop-id.invariant.bound ∙ len_nodes c.args.parts.now.states.items in
    rw (← c.loop-id.invariant.bound) (met_below (automaton_in c.args.parts.now) c.loop-id.set.bound len c.requires.sound
    (reverse c.loop-id.stack.items)
    c.loop-id.set.names
    (reverse c.next_fresh.new.stack.items) c.next_fresh.new.set.names c.loop-id.invariant.stands c.in_default.ensures.meets)

fewer : (now bound more len : ℕ) → now ≡ bound → more ≡ len + 1 → more ≤ now → now - more < bound - len
fewer now bound more len same one fits = omega arith

pub next_fresh-requires-clause-below : goal.next_fresh-requires-clause-below
next_fresh-requires-clause-below g c = c.loop-id.invariant.stands.0

pub next_fresh-requires-clause-fits : goal.next_fresh-requires-clause-fits
next_fresh-requires-clause-fits g c = c.loop-id.invariant.fits

pub state_at-requires : goal.state_at-requires
state_at-requires g c =
    subst (λ (n : ℕ). c.in-Some.id < n) (c.loop-id.invariant.bound ∙ ap length (sym c.deref-in-Some.ensures.value)) c.in-Some.ensures.inside

pub loop-id-smaller : goal.loop-id-smaller
loop-id-smaller g c =
    fewer c.next_fresh.new.set.bound c.loop-id.set.bound (length c.next_fresh.new.set.names) (length c.loop-id.set.names)
    c.in-Some.ensures.bound (ap length c.in-Some.ensures.meets.0 ∙ length-append c.loop-id.set.names (c.in-Some.id ∷ []))
    c.in-Some.ensures.fits

pub returns-in_err-set-clause-names : goal.returns-in_err-set-clause-names
returns-in_err-set-clause-names g c = failed _ _ c.from_residual.result c.from_residual.ensures.1

pub returns-in_err-set-clause-below : goal.returns-in_err-set-clause-below
returns-in_err-set-clause-below g c = failed _ _ c.from_residual.result c.from_residual.ensures.1

pub returns-in_err-push_all-clause-names : goal.returns-in_err-push_all-clause-names
returns-in_err-push_all-clause-names g c = failed _ _ c.from_residual-in_err-push_all.result c.from_residual-in_err-push_all.ensures.1

pub returns-in_err-push_all-clause-below : goal.returns-in_err-push_all-clause-below
returns-in_err-push_all-clause-below g c = failed _ _ c.from_residual-in_err-push_all.result c.from_residual-in_err-push_all.ensures.1

pub returns-in_err-push_ways-clause-names : goal.returns-in_err-push_ways-clause-names
returns-in_err-push_ways-clause-names g c = failed _ _ c.from_residual-in_err-push_ways.result c.from_residual-in_err-push_ways.ensures.1

pub returns-in_err-push_ways-clause-below : goal.returns-in_err-push_ways-clause-below
returns-in_err-push_ways-clause-below g c = failed _ _ c.from_residual-in_err-push_ways.result c.from_residual-in_err-push_ways.ensures.1
