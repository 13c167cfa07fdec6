use Rattle.std.proofs.Common.{ap, sym, ◌∙◌, ◌&&◌}
use Rattle.ffi_core.specs.Compiled.{do_lengths_fit}
use Rattle.ffi_core.proofs.TextLemmas.{refused_arguments}
use Rattle.ffi_core.proofs.texts.accepts.Goals as goal

pub returns-clause-refused : goal.returns-clause-refused
returns-clause-refused c = λ off.
    refused_arguments c.args.options.now c.args.lengths.now c.args.bytes.now
    (ap (λ b. b && do_lengths_fit c.args.lengths.now c.args.bytes.now) (sym c.if-not-is_known.ensures) ∙ sym c.lengths_fit.ensures ∙ off)
