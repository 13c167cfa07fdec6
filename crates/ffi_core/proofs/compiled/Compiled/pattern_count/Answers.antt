use Rattle.std.proofs.Common.{ap, length, ◌∙◌}
use Rattle.meta_regex.specs.Regexes.{RegexValue}
use Rattle.ffi_core.specs.Compiled.{Regexed}
use Rattle.ffi_core.proofs.compiled.Compiled.pattern_count.Goals as goal

pub returns : goal.returns
returns c =
    c.pattern_count.ensures ∙ ap (λ (r : RegexValue). length r.texts) c.deref.ensures
    ∙ ap (λ (v : Regexed). length v.texts) c.self.view_is
