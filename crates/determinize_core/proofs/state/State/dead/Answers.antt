use Rattle.std.proofs.Common.{◌≡◌, rules, replicate}
use Rattle.determinize_core.specs.States.{dead}
use Rattle.determinize_core.proofs.ValueLemmas.{is_encoded, dead_state}
use Rattle.determinize_core.proofs.state.State.dead.Goals as goal

pub from_bytes-requires : goal.from_bytes-requires
from_bytes-requires c =
    let zeros : c.in_ok-vec.field-0.items ≡ replicate 9 0 = search rules in
    is_encoded dead _ dead_state zeros
