use Rattle.std.proofs.Common.{ap, sym, option_to_list, ◌∙◌, map}
use Rattle.nfa_core.specs.Transitions.{range_of}
use Rattle.nfa_core.specs.States.{node_of}
use Rattle.nfa_core.specs.Ways.{on_byte}
use Rattle.nfa_core.specs.declared.state.State.{State}
use Rattle.nfa_core.proofs.ForCallers.{sparse_leads}
use Rattle.determinize_core.proofs.next_state.target_by.Goals as goal

pub returns-in-Sparse : goal.returns-in-Sparse
returns-in-Sparse c =
    ap option_to_list c.matches_byte.ensures ∙ (sparse_leads (map range_of c.in-Sparse.sparse.transitions.items) c.args.byte
    ∙ sym (ap (λ (s : State). on_byte (node_of s) c.args.byte) c.in-Sparse.is))
