use Rattle.std.proofs.Common.{le-ltb, lt-ltb, take}
use Rattle.std.proofs.lemmas.Bool.{false_from_ne_true}
use Rattle.std.proofs.lemmas.Str.{IsUtf8-from_is_utf8, is_utf8-from_IsUtf8}
use Rattle.regex.specs.Templates.{name_at}
use Rattle.templates.proofs.reading.name_in_braces.Goals as goal

pub returns-then-len-inside-clause-value : goal.returns-then-len-inside-clause-value
unfolding name_at
returns-then-len-inside-clause-value c =
    rw (name_at, c.requires, ← c.after-inside.ensures, ← c.len_before-len.ensures.value, le-ltb _ _ c.if-len-inside.true)

pub returns-in-Ok-clause-value : goal.returns-in-Ok-clause-value
unfolding name_at
returns-in-Ok-clause-value c =
    rw (c.in-Ok.ensures.cases.0, name_at, c.requires, ← c.after-inside.ensures, ← c.len_before-len.ensures.value, lt-ltb _ _ c.if-len-inside.false, is_utf8-from_IsUtf8 _ c.in-Ok.ensures.cases.1)

pub returns-in-Err-clause-value : goal.returns-in-Err-clause-value
unfolding name_at
returns-in-Err-clause-value c =
    let no_text = false_from_ne_true _ (λ e. c.in-Err.ensures.cases.0 (IsUtf8-from_is_utf8 (take c.len_before-len.result c.after-inside.result.now) e)) in
    rw (name_at, c.requires, ← c.after-inside.ensures, ← c.len_before-len.ensures.value, lt-ltb _ _ c.if-len-inside.false, no_text)
