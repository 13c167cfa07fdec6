use Rattle.std.proofs.Common.{◌∙◌}
use Rattle.look_core.specs.Codes.{is_word_unicode}
use Rattle.look_core.proofs.LookSetLemmas.{has_any-flip}
use Rattle.look_core.proofs.look_set.LookSet.contains_word_unicode.Goals as goal

pub returns : goal.returns
returns c = c.contains_any.ensures ∙ has_any-flip is_word_unicode c.args.self
