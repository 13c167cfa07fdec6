use Rattle.std.proofs.Common.{map, ap, ◌∙◌}
use Rattle.std.proofs.lemmas.List.{take_all}
use Rattle.nfa_core.specs.States.{node_of}
use Rattle.search_types.proofs.ForCallers.{failed}
use Rattle.nfa_core.proofs.AddedLemmas.{seen_taken}
use Rattle.nfa_core.proofs.nfa.clone_states.Goals as goal

pub loop-state-init : goal.loop-state-init
loop-state-init c = ap (map node_of) c.in_ok-copies.ensures.items

pub loop-state-preserved : goal.loop-state-preserved
loop-state-preserved c =
    seen_taken node_of node_of c.loop-state.copies.items c.push.new.self.items c.args.states.now c.loop-state.state-index
    c.state-item.result c.in_ok-clone_state.field-0 c.loop-state-test.true c.state-item.is c.in_ok-clone_state.ensures
    c.loop-state.invariant c.in_ok-push.ensures.items

pub returns-in_err-push : goal.returns-in_err-push
returns-in_err-push c = failed _ _ c.from_residual-in_err-push.result c.from_residual-in_err-push.ensures.1

pub returns : goal.returns
returns c =
    c.loop-state.invariant ∙ ap (map node_of) (take_all c.loop-state.state-index c.args.states.now c.loop-state-test.false)
