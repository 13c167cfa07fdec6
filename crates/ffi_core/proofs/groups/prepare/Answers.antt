use Rattle.std.proofs.Common.{subst, sym}
use Rattle.group_finder.specs.declared.errors.NewError.{NewError}
use Rattle.captures.specs.Errors.{IsPrepareError}
use Rattle.ffi_core.specs.Options.{options_of}
use Rattle.ffi_core.proofs.groups.prepare.Goals as goal

pub returns-in-Ok-clause-own : goal.returns-in-Ok-clause-own
returns-in-Ok-clause-own c = c.prepare.ensures.own (options_of c.args.options.now)

pub returns-in-Err-TooLarge-clause-own : goal.returns-in-Err-TooLarge-clause-own
returns-in-Err-TooLarge-clause-own c = c.prepare.ensures.own (options_of c.args.options.now)

pub returns-in-Err-TooLarge-clause-refused : goal.returns-in-Err-TooLarge-clause-refused
returns-in-Err-TooLarge-clause-refused c = λ texts of ts. (
  sym c.if-not-asks_groups.ensures,
  subst (λ (e : NewError). IsPrepareError (options_of c.args.options.now) e) c.in-Err-TooLarge.field-0-is
      (c.in-Err-TooLarge.ensures.refused (options_of c.args.options.now) texts of),
)

pub returns-in-Err : goal.returns-in-Err
returns-in-Err c = record {
  own = c.prepare.ensures.own (options_of c.args.options.now);
  prepared = λ asked. tt;
  refused = λ texts of ts. tt;
}
