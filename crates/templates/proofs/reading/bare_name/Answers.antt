use Rattle.std.proofs.Common.{◌<◌, lt-ltb, ne_eqb, arith}
use Rattle.regex.proofs.TemplateLemmas.{name_is_text}
use Rattle.regex.specs.Templates.{name_at}
use Rattle.templates.proofs.reading.bare_name.Goals as goal

pub returns-then-len-eq0-clause-value : goal.returns-then-len-eq0-clause-value
unfolding name_at
returns-then-len-eq0-clause-value c =
    rw (name_at, ne_eqb _ 123 c.requires, ← c.name_len-len.ensures.value, c.if-len-eq0.true)

pub returns-in-Ok-clause-value : goal.returns-in-Ok-clause-value
unfolding name_at
returns-in-Ok-clause-value c =
    let some : 0 < c.name_len-len.result = omega arith in
    rw (c.in-Ok.ensures.cases.0, name_at, ne_eqb _ 123 c.requires, ← c.name_len-len.ensures.value, lt-ltb _ _ some)

pub returns-in-Err-clause-value : goal.returns-in-Err-clause-value
returns-in-Err-clause-value c =
    absurd (c.in-Err.ensures.cases.0 (rw c.name_len-len.ensures.value (name_is_text c.args.rest.now)))
