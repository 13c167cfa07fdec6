use Rattle.std.proofs.Common.{◌≡◌, ◌∙◌, ℕ, Bool, false, map, length, get_or, sym, ap}
use Rattle.nfa_core.specs.Nfa.{fail_node}
use Rattle.nfa_core.specs.NfaValue.{is_match}
use Rattle.nfa_core.specs.States.{node_of}
use Rattle.nfa_core.proofs.ReachedLemmas.{taken_below, left_below}
use Rattle.nfa_core.proofs.ToldLemmas.{any_next}
use Rattle.nfa_core.proofs.nfa_facts.has_match.Goals as goal

pub state_at-requires : goal.state_at-requires
state_at-requires c = taken_below (length c.args.states.now) c.in-Some.id c.next.new.self c.loop-id.id-iterator c.in-Some.ensures.steps
    c.loop-id.invariant.below

pub loop-id-preserved : goal.loop-id-preserved
loop-id-preserved c =
    let test : ℕ → Bool = λ q. is_match (get_or (map node_of c.args.states.now) q fail_node) in
    let none : test c.in-Some.id ≡ false = ap is_match (sym c.state_at.ensures) ∙ sym c.is_match.ensures ∙ c.if-is_match.false in
    record {
      below = left_below (length c.args.states.now) c.in-Some.id c.next.new.self c.loop-id.id-iterator c.in-Some.ensures.steps
          c.loop-id.invariant.below;
      same = any_next c.in-Some.id c.next.new.self c.loop-id.id-iterator c.in-Some.ensures.steps test _ none c.loop-id.invariant.same;
    }
