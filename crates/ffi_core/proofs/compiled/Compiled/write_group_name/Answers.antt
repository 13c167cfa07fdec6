use Rattle.std.proofs.Common.{ap, refl, option_map}
use Rattle.captures.specs.Groups.{AreGroupsOf}
use Rattle.ffi_core.proofs.CompiledLemmas.{by_options}
use Rattle.ffi_core.proofs.GroupLemmas.{name_known}
use Rattle.ffi_core.proofs.compiled.Compiled.write_group_name.Goals as goal

pub returns : goal.returns
returns c =
    let of = by_options c.self.inside.regex.value c.self.inside.regex.value c.self.inside.options c.args.self.now refl c.self.invariant.0
    c.self.view_is (λ o ts. AreGroupsOf o ts c.self.inside.groups) c.self.invariant.2 in
    name_known c.args.self.now c.args.pattern c.args.group (option_map (λ t. t.now) c.group_name.result) c.args.room.now c.write_name.new.room
    c.write_name.result c.write_name.ensures.counted c.write_name.ensures.written (c.group_name.ensures.named _ _ of)
    (λ absent. ap (option_map (λ t. t.now)) (c.group_name.ensures.none _ _ of absent))
