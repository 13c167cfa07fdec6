-- Threads may share a regex, and send it to each other. The prover makes no such laws of a type that leads to itself, as a tree does, nor of
-- one that has such a part. So they are put together here.
use denote.Param.Send.{IsSend, IsSync, sendable, view_send, view_sync, recorded_send, recorded_sync, struct_send, struct_sync}
use denote.Struct.Declared.{shape}
use Rattle.std.proofs.Crossing.{crosses}
use Rattle.std.proofs.option.Option.TheSendSync as option
use Rattle.look_core.proofs.look.Look.TheSendSync as look
use Rattle.hir_core.proofs.hir.Hir.TheLaws.TheKnot as knot
use Rattle.hir_core.proofs.properties.Properties.TheSendSync as properties
use Rattle.hir_core.specs.contracts.hir.Hir as tree
use Rattle.regex_pair.proofs.regex.Regex.TheSendSync as pair
use Rattle.meta_regex.specs.contracts.compiled.Regex as regex
use Rattle.meta_regex.specs.contracts.compiled.Regex.TheInside as inside
use Rattle.meta_regex.proofs.literal_starts.LiteralStarts.TheSendSync as starts
use Rattle.meta_regex.proofs.options.Options.TheSendSync as options
use Rattle.meta_regex.proofs.ways.Way.TheSendSync as way

pub tree_send : IsSend tree.the_row
tree_send = search (properties.the_send, look.the_send, crosses, knot.crosses, sendable) depth 60 fits 20000

pub tree_sync : IsSync tree.the_row
tree_sync = search (properties.the_send, properties.the_sync, look.the_send, look.the_sync, crosses, knot.crosses, sendable) depth 60 fits 20000

pub regex_send : IsSend regex.the_row
regex_send =
    view_send inside.the_row _ _ _ _ (recorded_send (inside.the_field).row _ _ (inside.the_type).to_one (struct_send (shape inside.the_type)
    (search (tree_send, option.the_field_send, pair.the_send, pair.the_sync, options.the_field_send, starts.the_field_send, way.the_field_send, crosses, sendable)
    depth 60 fits 20000)))

pub regex_sync : IsSync regex.the_row
regex_sync =
    view_sync inside.the_row _ _ _ _ (recorded_sync (inside.the_field).row _ _ (inside.the_type).to_one (struct_sync (shape inside.the_type)
    (search (tree_sync, option.the_field_sync, pair.the_send, pair.the_sync, options.the_field_sync, starts.the_field_sync, way.the_field_sync, crosses, sendable)
    depth 60 fits 20000)))
