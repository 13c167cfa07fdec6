use Rattle.std.proofs.Common.{◌∙◌, sym}
use Rattle.search_core.proofs.ForCallers.{utf8_of_valid, valid_of_utf8}
use Rattle.meta_regex.proofs.searching.check_text.Goals as goal

pub returns-in-Ok-clause-text : goal.returns-in-Ok-clause-text
returns-in-Ok-clause-text c = λ on. valid_of_utf8 c.args.haystack.now c.in-Ok.ensures.cases.1

pub returns-in-Err-clause-refused : goal.returns-in-Err-clause-refused
returns-in-Err-clause-refused c config same = (
  sym same ∙ c.if-not-utf8.false,
  (c.valid_up_to.ensures ∙ c.in-Err.ensures.valid_len, λ valid. c.in-Err.ensures.cases.0 (utf8_of_valid c.args.haystack.now valid)),
)
