use Rattle.std.proofs.Common.{length, ap, ◌∙◌}
use Rattle.nfa_core.proofs.ForCallers.{len_nodes}
use Rattle.determinize_core.proofs.IdsLemmas.{told_then, told_else}
use Rattle.determinize_core.proofs.ids_of.of_nfa.Goals as goal

pub returns-then-below : goal.returns-then-below
returns-then-below c =
    told_then (length c.args.nfa.now.automaton.states) (length c.states.result.now) c.args.state.now.ids c.iter_nfa_state_ids.result
    c.iter_nfa_state_ids-2.result c.are_below-below.result c.are_once-once.result
    (len_nodes c.states.result.now ∙ ap length c.states.ensures) c.iter_nfa_state_ids.ensures c.iter_nfa_state_ids-2.ensures
    c.are_below-below.ensures c.are_once-once.ensures c.if-below.true

pub returns-else-below : goal.returns-else-below
returns-else-below c =
    told_else (length c.args.nfa.now.automaton.states) (length c.states.result.now) c.args.state.now.ids c.iter_nfa_state_ids.result
    c.iter_nfa_state_ids-2.result c.are_below-below.result c.are_once-once.result
    (len_nodes c.states.result.now ∙ ap length c.states.ensures) c.iter_nfa_state_ids.ensures c.iter_nfa_state_ids-2.ensures
    c.are_below-below.ensures c.are_once-once.ensures c.if-below.false
