use Rattle.std.proofs.Common.{refl}
use Rattle.captures.specs.Groups.{AreGroupsOf}
use Rattle.ffi_core.proofs.CompiledLemmas.{by_options}
use Rattle.ffi_core.proofs.GroupLemmas.{count_known, count_none}
use Rattle.ffi_core.proofs.compiled.Compiled.group_count.Goals as goal

pub returns-in-Some : goal.returns-in-Some
returns-in-Some c =
    let of = by_options c.self.inside.regex.value c.self.inside.regex.value c.self.inside.options c.args.self.now refl c.self.invariant.0
    c.self.view_is (λ o ts. AreGroupsOf o ts c.self.inside.groups) c.self.invariant.2 in
    count_known c.args.self.now c.args.pattern c.group_count.result c.in-Some.count c.in-Some.is
    (c.group_count.ensures.counted _ _ of) (c.group_count.ensures.none _ _ of)

pub returns-in-None : goal.returns-in-None
returns-in-None c =
    let of = by_options c.self.inside.regex.value c.self.inside.regex.value c.self.inside.options c.args.self.now refl c.self.invariant.0
    c.self.view_is (λ o ts. AreGroupsOf o ts c.self.inside.groups) c.self.invariant.2 in
    count_none c.args.self.now c.args.pattern c.group_count.result c.in-None.is (c.group_count.ensures.counted _ _ of)
