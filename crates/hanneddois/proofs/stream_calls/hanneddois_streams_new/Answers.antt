use Rattle.std.proofs.Common.{subst, sym}
use Rattle.ffi_core.specs.Streams.{IsStreamsFailure}
use Rattle.ffi_core.specs.declared.failure.Failure.{Failure}
use Rattle.hanneddois.proofs.stream_calls.hanneddois_streams_new.Goals as goal

pub returns-in-Err-clause-refused : goal.returns-in-Err-clause-refused
returns-in-Err-clause-refused c = λ fails.
    subst (λ (f : Failure). IsStreamsFailure c.args.options.now c.args.lengths.now c.args.texts.now f) (sym c.refuse.ensures.reported)
    c.in-Err.ensures.refused
