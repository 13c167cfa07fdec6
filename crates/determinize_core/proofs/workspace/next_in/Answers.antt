use Rattle.std.proofs.Common.{◌∙◌, sym, subst}
use Rattle.search_core.specs.Units.{unit_byte}
use Rattle.determinize_core.specs.States.{StateValue}
use Rattle.determinize_core.specs.Stepped.{IsStepped}
use Rattle.determinize_core.proofs.workspace.next_in.Goals as goal

pub next-requires-clause-bound1 : goal.next-requires-clause-bound1
next-requires-clause-bound1 g c = c.work.view_is ∙ c.requires.room

pub next-requires-clause-bound2 : goal.next-requires-clause-bound2
next-requires-clause-bound2 g c = c.work.invariant ∙ (c.work.view_is ∙ c.requires.room)

pub next-requires-clause-below : goal.next-requires-clause-below
next-requires-clause-below g c = c.requires.state.below

pub next-requires-clause-once : goal.next-requires-clause-once
next-requires-clause-once g c = c.requires.state.once

pub next-requires-clause-empty : goal.next-requires-clause-empty
next-requires-clause-empty g c = c.clear.ensures.items

pub invariant_of-work : goal.invariant_of-work
invariant_of-work g c = c.next.ensures.bound2 ∙ sym c.next.ensures.bound1

pub invariant_of-work-2 : goal.invariant_of-work-2
invariant_of-work-2 g c = c.next.ensures.bound2 ∙ sym c.next.ensures.bound1

pub invariant_of-work-in_err-behind : goal.invariant_of-work-in_err-behind
invariant_of-work-in_err-behind g c = c.next.ensures.bound2 ∙ sym c.next.ensures.bound1

pub returns-in_err-built-clause-room : goal.returns-in_err-built-clause-room
returns-in_err-built-clause-room g c = c.in_err-built.ensures.bound1 ∙ sym c.requires.room

pub returns-in_err-behind-clause-room : goal.returns-in_err-behind-clause-room
returns-in_err-behind-clause-room g c = c.in_ok-built.ensures.bound1 ∙ sym c.requires.room

pub returns-clause-room : goal.returns-clause-room
returns-clause-room g c = c.in_ok-built.ensures.bound1 ∙ sym c.requires.room

pub returns-in_err-built-clause-cost : goal.returns-in_err-built-clause-cost
returns-in_err-built-clause-cost g c = c.in_err-built.ensures.cost

pub returns-in_err-behind-clause-cost : goal.returns-in_err-behind-clause-cost
returns-in_err-behind-clause-cost g c = c.in_ok-built.ensures.cost

pub returns-clause-cost : goal.returns-clause-cost
returns-clause-cost g c = c.in_ok-built.ensures.cost

pub returns-clause-value : goal.returns-clause-value
returns-clause-value g c = c.in_ok-behind.ensures ∙ c.in_ok-built.ensures.value

pub returns-clause-stepped : goal.returns-clause-stepped
returns-clause-stepped g c =
    subst (λ (v : StateValue). IsStepped c.args.nfa.now.automaton v) (sym (c.in_ok-behind.ensures ∙ c.in_ok-built.ensures.value))
    (c.starts_and_steps_are_stepped.ensures.step c.args.nfa.now.automaton c.args.nfa.now.terminator c.args.kind c.args.state.now
    (unit_byte c.args.unit) c.is_sound.ensures)
