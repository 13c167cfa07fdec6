use Rattle.std.proofs.Common.{◌∙◌, refl}
use Rattle.search_core.proofs.ForCallers.{utf8_of_valid}
use Rattle.ffi_core.proofs.texts.text_of.Goals as goal

pub returns-in-Err-clause-refused : goal.returns-in-Err-clause-refused
returns-in-Err-clause-refused c = (
  c.valid_up_to.result,
  refl,
  (c.valid_up_to.ensures ∙ c.in-Err.ensures.valid_len, λ valid. c.in-Err.ensures.cases.0 (utf8_of_valid c.args.bytes.now valid)),
)
