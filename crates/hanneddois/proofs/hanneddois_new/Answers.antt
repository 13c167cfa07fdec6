use Rattle.std.proofs.Common.{◌≡◌, ◌∙◌, ◌<◌, ℕ, arith, ap, sym}
use Rattle.ffi_core.specs.Failures.{without_cause}
use Rattle.ffi_core.specs.declared.failure.Failure.{Failure}
use Rattle.ffi_core.specs.declared.failure.NewError.TheVariants.{BadArgument}
use Rattle.hanneddois.proofs.hanneddois_new.Goals as goal

pub returns-then-not-accepts-clause-refused : goal.returns-then-not-accepts-clause-refused
returns-then-not-accepts-clause-refused c = λ fails.
    (BadArgument, ap without_cause c.end.ensures.reported, c.accepts.ensures.refused c.if-not-accepts.true)

pub returns-in-Err-clause-plain : goal.returns-in-Err-clause-plain
returns-in-Err-clause-plain c = λ ok.
    let fails : 0 < c.failure.result.status = c.failure.ensures.fails in
    let same : c.refuse.result ≡ c.failure.result.status = c.refuse.ensures.status in
    absurd (omega (arith, ok, fails, same))
