use Rattle.std.proofs.Common.{◌≡◌, rules, replicate, refl}
use Rattle.determinize_core.specs.States.{dead}
use Rattle.determinize_core.proofs.ValueLemmas.{dead_state}
use Rattle.determinize_core.proofs.EditLemmas.{told_unfinished}
use Rattle.determinize_core.proofs.state_builder.StateBuilderEmpty.into_matches.Goals as goal

pub from_bytes-requires-clause-form : goal.from_bytes-requires-clause-form
from_bytes-requires-clause-form c =
    let zeros : c.extend_from_slice.new.self.items ≡ replicate 9 0 = search rules in
    (told_unfinished dead _ dead_state refl zeros).0
