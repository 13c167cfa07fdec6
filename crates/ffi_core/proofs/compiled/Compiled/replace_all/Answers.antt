use Rattle.std.proofs.Common.{ap, arith, length, ◌∙◌}
use Rattle.meta_regex.specs.Regexes.{overlaid}
use Rattle.ffi_core.specs.Compiled.{config_by}
use Rattle.ffi_core.specs.Replacing.{said_by}
use Rattle.ffi_core.proofs.ReplaceLemmas.{into_room}
use Rattle.ffi_core.proofs.compiled.Compiled.replace_all.Goals as goal

pub returns-in-Ok-replace_matches-clause-replaced : goal.returns-in-Ok-replace_matches-clause-replaced
returns-in-Ok-replace_matches-clause-replaced c =
    let said = said_by (config_by c.args.self.now) c.args.is_literal c.args.replacement.now in
    into_room (config_by c.args.self.now) c.args.self.now.texts c.args.haystack.now said c.args.limit
    c.in-Ok-replace_matches.replaced.bytes.items c.in-Ok-replace_matches.replaced.count c.args.output.now c.write_into.new.room c.len.result
    (c.in-Ok-replace_matches.ensures.replaced said c.in-Ok.ensures)
    (c.write_into.ensures ∙ ap (λ b. overlaid b c.args.output.now) c.deref.ensures.value)
    (omega (arith, c.len.ensures, c.deref.ensures.len, ap length c.deref.ensures.value))
