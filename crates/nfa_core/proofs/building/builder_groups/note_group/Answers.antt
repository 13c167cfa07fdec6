use Rattle.std.proofs.Common.{◌≡◌, ◌<◌, length, rules}
use Rattle.std.specs.Option.{option_map}
use Rattle.std.specs.String.{string_bytes}
use Rattle.search_types.specs.GroupFaults.{names_in, groups_in}
use Rattle.nfa_core.specs.BuilderStates.{up_to_pattern, with_name}
use Rattle.nfa_core.proofs.BuilderLemmas.{view_group}
use Rattle.nfa_core.proofs.building.builder_groups.note_group.Goals as goal

pub returns : goal.returns
returns c =
    let inside : c.args.pattern < length c.fill_patterns.new.groups.items = search rules in
    let all : groups_in c.fill_patterns.new.groups.items ≡ up_to_pattern (groups_in c.args.groups.now.items) c.args.pattern =
    search rules in
    let named : names_in c.note_name.new.names.items ≡ with_name (names_in c.index_mut.result.now.items) c.args.index
    (option_map string_bytes c.args.name) = search rules in
    view_group (λ names. names_in names.items) c.args.groups.now.items c.fill_patterns.new.groups.items c.as_usize.result c.args.pattern
    c.args.index _
    c.index_mut.result.now c.note_name.new.names c.index_mut.result.now (search rules) all inside (search rules) named
