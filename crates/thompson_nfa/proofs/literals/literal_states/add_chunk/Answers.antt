use Rattle.std.proofs.Common.{◌+◌, ◌*◌, length}
use Rattle.thompson_nfa.proofs.Steps.ErrorLemmas.{handed}
use Rattle.thompson_nfa.proofs.LiteralTries.LiteralStateLemmas.{chunk_ascends, bytes_of_chunk}
use Rattle.thompson_nfa.proofs.Steps.StepLemmas.{add_refused}
use Rattle.thompson_nfa.proofs.literals.literal_states.add_chunk.Goals as goal

pub add_sparse-requires : goal.add_sparse-requires
add_sparse-requires c = chunk_ascends c.args.names.now c.args.edges.now _ c.requires.ascending c.in_ok-all.ensures

pub returns-in_err-id-clause-refused : goal.returns-in_err-id-clause-refused
returns-in_err-id-clause-refused c = handed _ _ c.in_err-id.field-0.0 c.from_residual-in_err-id.ensures.1
    (add_refused _ _ _ (24 + 8 * length c.args.edges.now) _ c.in_err-id.ensures.0 c.in_err-id.ensures.1
    (bytes_of_chunk c.args.names.now c.args.edges.now _ c.in_ok-all.ensures))
