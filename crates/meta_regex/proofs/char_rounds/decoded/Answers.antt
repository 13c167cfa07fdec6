use Rattle.std.proofs.Common.{ap, sym, Some, ◌∙◌, Result, ℕ}
use Rattle.meta_regex.proofs.CharLemmas.{character_read, none_behind, none_read}
use Rattle.meta_regex.proofs.char_rounds.decoded.Goals as goal

pub returns-in-Some-Ok : goal.returns-in-Some-Ok
returns-in-Some-Ok c =
    sym (character_read c.args.haystack.now c.args.at c.in-Some-Ok.c c.decode.result c.decode.ensures
    (c.in-Some-Ok.is ∙ ap (λ (r : Result ℕ ℕ). Some r) c.in-Some-Ok.field-0-is))

pub returns-in-Some-Err : goal.returns-in-Some-Err
returns-in-Some-Err c =
    sym (none_read c.args.haystack.now c.args.at c.in-Some-Err.field-0-0 c.decode.result c.decode.ensures
    (c.in-Some-Err.is ∙ ap (λ (r : Result ℕ ℕ). Some r) c.in-Some-Err.field-0-is))

pub returns-in-None : goal.returns-in-None
returns-in-None c = sym (none_behind c.args.haystack.now c.args.at c.decode.result c.decode.ensures c.in-None.is)
