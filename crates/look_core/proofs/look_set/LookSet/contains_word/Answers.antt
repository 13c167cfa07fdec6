use Rattle.std.proofs.Common.{true, false, refl, sym, ◌∙◌}
use Rattle.look_core.specs.Codes.{is_word_unicode, is_word_ascii}
use Rattle.look_core.proofs.LookSetLemmas.{has_any-both}
use Rattle.look_core.proofs.look_set.LookSet.contains_word.Goals as goal

pub returns-then-contains_word_unicode : goal.returns-then-contains_word_unicode
returns-then-contains_word_unicode c = c.if-contains_word_unicode.true
    ∙ has_any-both is_word_unicode is_word_ascii c.args.self true _ (sym c.if-contains_word_unicode.true
    ∙ c.contains_word_unicode.ensures) refl

pub returns-else-contains_word_unicode : goal.returns-else-contains_word_unicode
returns-else-contains_word_unicode c = has_any-both is_word_unicode is_word_ascii c.args.self false _ (sym c.if-contains_word_unicode.false
    ∙ c.contains_word_unicode.ensures) c.contains_word_ascii.ensures
