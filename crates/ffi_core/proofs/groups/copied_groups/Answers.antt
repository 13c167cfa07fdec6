use Rattle.ffi_core.specs.Options.{options_of}
use Rattle.ffi_core.proofs.groups.copied_groups.Goals as goal

pub returns-in-Ok-clause-own : goal.returns-in-Ok-clause-own
returns-in-Ok-clause-own c = λ texts of.
    c.prepare.ensures.own texts (c.in_ok-copy.ensures (options_of c.args.options.now) texts of)
