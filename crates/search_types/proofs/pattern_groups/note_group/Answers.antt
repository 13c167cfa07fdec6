use Rattle.std.proofs.Common.{◌∙◌}
use Rattle.std.specs.Option.{option_map}
use Rattle.std.specs.String.{string_bytes}
use Rattle.search_types.proofs.SoundLemmas.{indexed_sound, sound_group_fits}
use Rattle.search_types.proofs.pattern_groups.note_group.Goals as goal

pub must-index-requires : goal.must-index-requires
must-index-requires c = sound_group_fits c.args.names.now (option_map string_bytes c.args.name.now) c.requires.sound

pub returns-clause-indexed : goal.returns-clause-indexed
returns-clause-indexed c =
    indexed_sound c.args.names.now c.args.indices.now c.insert.new.self c.args.name.now c.in-Some.text c.in_ok-from_str.field-0
    c.must-index.result
    c.must-index.ensures c.requires.finds c.in-Some.is (c.in_ok-from_str.ensures.ok
    ∙ c.as_str.ensures.value) c.requires.sound c.in_ok-insert.ensures.updates
