use Rattle.std.proofs.Common.{subst}
use Rattle.meta_regex.specs.declared.options.Options as engine
use Rattle.meta_regex.specs.Regexes.{IsNewError}
use Rattle.pattern_search.proofs.ForCallers.{read_texts}
use Rattle.ffi_core.proofs.compiled.regex_of.Goals as goal

pub returns-in-Err-clause-refused : goal.returns-in-Err-clause-refused
returns-in-Err-clause-refused c =
    c.of.ensures c.args.options.now (read_texts c.args.texts.now)
    (subst (λ (e : engine.Options). IsNewError e (read_texts c.args.texts.now) c.in-Err.e) c.options.ensures.value c.in-Err.ensures.refused)
