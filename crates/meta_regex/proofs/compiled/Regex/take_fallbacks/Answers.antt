use Rattle.std.proofs.Common.{ℕ, List, map, subst}
use Rattle.std.specs.Prelude.{string_bytes}
use Rattle.meta_regex.specs.declared.options.Options.{Options}
use Rattle.meta_regex.specs.Fallbacks.{AreFallbacksOf}
use Rattle.meta_regex.specs.Options.{config_of}
use Rattle.meta_regex.specs.Regexes.{config_by}
use Rattle.meta_regex.proofs.compiled.Regex.take_fallbacks.Goals as goal

pub returns-in-Ok-clause-made : goal.returns-in-Ok-clause-made
returns-in-Ok-clause-made c =
    subst (λ (ts : List (List ℕ)). AreFallbacksOf (config_by c.args.self.now) ts c.in-Ok.fallbacks) c.texts.ensures
    (subst (λ (o : Options). AreFallbacksOf (config_of o) (map string_bytes c.texts.result.now) c.in-Ok.fallbacks) c.options.ensures
    c.in-Ok.ensures.made)
