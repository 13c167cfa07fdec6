use Rattle.std.proofs.Common.{◌≡◌, ◌∙◌, ℕ, map, length, get_or, ap}
use Rattle.look_core.specs.LookSets.{union_of}
use Rattle.nfa_core.specs.Nfa.{Node, fail_node}
use Rattle.nfa_core.specs.NfaValue.{look_of}
use Rattle.nfa_core.specs.States.{node_of}
use Rattle.nfa_core.proofs.ReachedLemmas.{taken_below, left_below}
use Rattle.nfa_core.proofs.ToldLemmas.{fold_next}
use Rattle.nfa_core.proofs.nfa_facts.looks_among.Goals as goal

pub state_at-requires : goal.state_at-requires
state_at-requires c = taken_below (length c.args.states.now) c.in-Some.id c.next.new.self c.loop-id.id-iterator c.in-Some.ensures.steps
    c.loop-id.invariant.below

pub loop-id-preserved : goal.loop-id-preserved
loop-id-preserved c =
    let node : ℕ → Node = λ q. get_or (map node_of c.args.states.now) q fail_node in
    let is : c.union-looks.result ≡ union_of c.loop-id.looks (look_of (node c.in-Some.id)) =
    c.union-looks.ensures ∙ ap (union_of c.loop-id.looks) (c.look_of.ensures ∙ ap look_of c.state_at.ensures) in
    record {
      below = left_below (length c.args.states.now) c.in-Some.id c.next.new.self c.loop-id.id-iterator c.in-Some.ensures.steps
          c.loop-id.invariant.below;
      same = fold_next c.in-Some.id c.next.new.self c.loop-id.id-iterator c.in-Some.ensures.steps node
          (λ s n. union_of s (look_of n)) c.loop-id.looks c.union-looks.result _ is c.loop-id.invariant.same;
    }
