use Rattle.std.proofs.Common.{map}
use Rattle.ffi_core.proofs.groups.prepared_groups.Goals as goal

pub returns-in-Err-prepare-clause-refused : goal.returns-in-Err-prepare-clause-refused
returns-in-Err-prepare-clause-refused c = λ ts.
    c.in-Err-prepare.ensures.refused (map (λ t. t.now) c.args.texts.now) c.in-Ok.ensures.made ts
