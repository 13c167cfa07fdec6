use Rattle.std.proofs.Common.{◌≡◌, string_bytes}
use Rattle.hirscan.proofs.RunLemmas.{writes_reply, writes_prefix}
use Rattle.hirscan.proofs.program.run.Goals as goal

pub returns-in-Ok-clause-ok : goal.returns-in-Ok-clause-ok
returns-in-Ok-clause-ok g c =
    let text : c.as_bytes.result.now ≡ string_bytes c.in_ok-ending.field-0.text = cc in
    writes_reply _ _ _ _ _ _ _ _ _ c.deref.ensures.value c.in_ok-input.ensures.read c.in_ok-input.ensures.whole c.in_ok-ending.ensures text
    c.in-Ok.ensures.ok

pub returns-clause-fault : goal.returns-clause-fault
returns-clause-fault g c =
    let text : c.as_bytes.result.now ≡ string_bytes c.in_ok-ending.field-0.text = cc in
    writes_prefix _ _ _ _ _ _ _ _ _ c.deref.ensures.value c.in_ok-input.ensures.read c.in_ok-input.ensures.whole c.in_ok-ending.ensures text
    _ c.in-Err.ensures.prefix

pub returns-in-Ok-clause-taken : goal.returns-in-Ok-clause-taken
returns-in-Ok-clause-taken g c = (_, c.in_ok-input.ensures.read, c.in_ok-input.ensures.limit, c.in_ok-input.ensures.whole)
