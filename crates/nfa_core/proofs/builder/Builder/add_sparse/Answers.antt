use Rattle.std.proofs.Common.{◌<◌}
use Rattle.std.proofs.lemmas.List.Elements.{All-map}
use Rattle.nfa_core.specs.Transitions.{range_of}
use Rattle.nfa_core.proofs.builder.Builder.add_sparse.Goals as goal

pub add-requires : goal.add-requires
add-requires c = (c.requires, All-map (λ r. r.1 < 256) range_of c.args.transitions.items (rw c.deref.ensures.value at c.see_bytes.ensures))
