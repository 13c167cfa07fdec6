use Rattle.std.proofs.Common.{◌≡◌, ◌<◌, ◌∙◌, ap, refl, sym, subst, ◌∷◌, [], List, ℕ, All, length, reverse, append-nil}
use Rattle.determinize_core.proofs.ClosureLemmas.{begins, goes_on, ends, counts, has_grown, cut_grown, cut_counts}
use Rattle.determinize_core.proofs.StackLemmas.{none_left}
use Rattle.determinize_core.proofs.closure.epsilon_closure.Goals as goal

pub loop-id-init : goal.loop-id-init
loop-id-init g c =
    let one : reverse c.push.new.stack.items ≡ c.args.start ∷ [] = c.in_ok-push.ensures.ok
    ∙ ap (λ (xs : List ℕ). c.args.start ∷ reverse xs) c.requires.empty in
    record {
      bound = refl;
      fits = c.len.ensures.fits;
      stands = begins c.args.nfa.now.automaton c.args.look_have c.args.start (g.S.NameSet.names c.args.set.now) c.args.steps.now
          (reverse c.push.new.stack.items) c.requires.inside one;
    }

pub next_fresh-requires-clause-below : goal.next_fresh-requires-clause-below
next_fresh-requires-clause-below g c =
    let bound : g.S.NameSet.bound c.loop-id.set ≡ length c.args.nfa.now.automaton.states = c.loop-id.invariant.bound ∙ c.requires.bound in
    rw bound c.loop-id.invariant.stands.below

pub follow-requires-clause-inside : goal.follow-requires-clause-inside
follow-requires-clause-inside g c =
    let bound : g.S.NameSet.bound c.loop-id.set ≡ length c.args.nfa.now.automaton.states = c.loop-id.invariant.bound ∙ c.requires.bound in
    rw (← bound) c.in-Some.ensures.inside

pub follow-requires-clause-bound : goal.follow-requires-clause-bound
follow-requires-clause-bound g c = c.in-Some.ensures.bound ∙ (c.loop-id.invariant.bound ∙ c.requires.bound)

pub loop-id-preserved : goal.loop-id-preserved
loop-id-preserved g c =
    let bound : g.S.NameSet.bound c.loop-id.set ≡ length c.args.nfa.now.automaton.states = c.loop-id.invariant.bound ∙ c.requires.bound in
    record {
      bound = c.in_ok-follow.ensures.bound ∙ (c.in-Some.ensures.bound ∙ c.loop-id.invariant.bound);
      fits = c.in_ok-follow.ensures.fits;
      stands = goes_on c.args.nfa.now.automaton c.args.look_have c.args.start (g.S.NameSet.names c.args.set.now) c.args.steps.now
          (reverse c.loop-id.stack.items) (g.S.NameSet.names c.loop-id.set) (reverse c.next_fresh.new.stack.items)
          (g.S.NameSet.names c.next_fresh.new.set) c.loop-id.steps c.next_fresh.new.steps
          c.loop-id.invariant.stands c.in-Some.id c.is_sound.ensures.named (rw (← bound) c.in-Some.ensures.inside)
          (rw (← bound) c.in-Some.ensures.below) c.in-Some.ensures.meets c.in-Some.ensures.cost
          (reverse c.follow.new.stack.items) (g.S.NameSet.names c.follow.new.set) c.follow.new.steps c.in_ok-follow.ensures.goes;
    }

-- if there is no memory to begin with, nothing was done
pub returns-in_err-push-clause-grows : goal.returns-in_err-push-clause-grows
returns-in_err-push-clause-grows g c = ([], sym (append-nil (g.S.NameSet.names c.args.set.now)))

pub returns-in_err-push-clause-below : goal.returns-in_err-push-clause-below
returns-in_err-push-clause-below g c = subst (λ (n : ℕ). All (λ q. q < n) (g.S.NameSet.names c.args.set.now)) c.requires.bound
    c.len.ensures.below

-- if memory runs out later, a state was met whose edges were not followed
pub returns-in_err-follow-clause-grows : goal.returns-in_err-follow-clause-grows
returns-in_err-follow-clause-grows g c =
    cut_grown c.args.nfa.now.automaton c.args.look_have c.args.start (g.S.NameSet.names c.args.set.now) c.args.steps.now
    (reverse c.loop-id.stack.items) (g.S.NameSet.names c.loop-id.set) (reverse c.next_fresh.new.stack.items)
    (g.S.NameSet.names c.next_fresh.new.set) c.loop-id.steps c.next_fresh.new.steps
    c.loop-id.invariant.stands c.in-Some.id c.in-Some.ensures.meets (g.S.NameSet.names c.follow.new.set) c.in_err-follow.ensures.grows

pub returns-in_err-follow-clause-below : goal.returns-in_err-follow-clause-below
returns-in_err-follow-clause-below g c =
    let bound : g.S.NameSet.bound c.follow.new.set ≡ length c.args.nfa.now.automaton.states =
    c.in_err-follow.ensures.bound ∙ (c.in-Some.ensures.bound ∙ (c.loop-id.invariant.bound ∙ c.requires.bound)) in
    subst (λ (n : ℕ). All (λ q. q < n) (g.S.NameSet.names c.follow.new.set)) bound c.in_err-follow.ensures.below

pub returns-in_err-follow-clause-cost : goal.returns-in_err-follow-clause-cost
returns-in_err-follow-clause-cost g c =
    cut_counts c.args.nfa.now.automaton c.args.look_have c.args.start (g.S.NameSet.names c.args.set.now) c.args.steps.now
    (reverse c.loop-id.stack.items) (g.S.NameSet.names c.loop-id.set) (reverse c.next_fresh.new.stack.items)
    (g.S.NameSet.names c.next_fresh.new.set) c.loop-id.steps c.next_fresh.new.steps
    c.loop-id.invariant.stands c.in-Some.id c.in-Some.ensures.meets (g.S.NameSet.names c.follow.new.set) c.in_err-follow.ensures.grows
    c.follow.new.steps c.in-Some.ensures.cost c.in_err-follow.ensures.cost

pub returns-clause-grows : goal.returns-clause-grows
returns-clause-grows g c =
    has_grown c.args.nfa.now.automaton c.args.look_have c.args.start (g.S.NameSet.names c.args.set.now) c.args.steps.now
    (reverse c.loop-id.stack.items) (g.S.NameSet.names c.loop-id.set) (reverse c.next_fresh.new.stack.items)
    (g.S.NameSet.names c.next_fresh.new.set) c.loop-id.steps c.next_fresh.new.steps
    c.loop-id.invariant.stands c.in_default.ensures.meets

pub returns-clause-below : goal.returns-clause-below
returns-clause-below g c =
    let bound : g.S.NameSet.bound c.next_fresh.new.set ≡ length c.args.nfa.now.automaton.states =
    c.in_default.ensures.bound ∙ (c.loop-id.invariant.bound ∙ c.requires.bound) in
    subst (λ (n : ℕ). All (λ q. q < n) (g.S.NameSet.names c.next_fresh.new.set)) bound c.in_default.ensures.all_below

pub returns-clause-visits : goal.returns-clause-visits
returns-clause-visits g c =
    ends c.args.nfa.now.automaton c.args.look_have c.args.start (g.S.NameSet.names c.args.set.now) c.args.steps.now
    (reverse c.loop-id.stack.items) (g.S.NameSet.names c.loop-id.set) (reverse c.next_fresh.new.stack.items)
    (g.S.NameSet.names c.next_fresh.new.set) c.loop-id.steps c.next_fresh.new.steps
    c.loop-id.invariant.stands c.in_default.ensures.meets

pub returns-clause-cost : goal.returns-clause-cost
returns-clause-cost g c =
    counts c.args.nfa.now.automaton c.args.look_have c.args.start (g.S.NameSet.names c.args.set.now) c.args.steps.now
    (reverse c.loop-id.stack.items) (g.S.NameSet.names c.loop-id.set) (reverse c.next_fresh.new.stack.items)
    (g.S.NameSet.names c.next_fresh.new.set) c.loop-id.steps c.next_fresh.new.steps
    c.loop-id.invariant.stands c.in_default.ensures.meets c.in_default.ensures.cost

pub returns-clause-stack : goal.returns-clause-stack
returns-clause-stack g c = none_left c.next_fresh.new.stack.items c.in_default.ensures.meets.0
