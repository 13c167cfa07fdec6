use Rattle.determinize_core.proofs.ValueLemmas.{decoded_encoded, same_from_bytes}
use Rattle.determinize_core.proofs.state_laws.bytes_stand_for_states.Goals as goal

pub returns-clause-back : goal.returns-clause-back
returns-clause-back c = decoded_encoded

pub returns-clause-apart : goal.returns-clause-apart
returns-clause-apart c = same_from_bytes
