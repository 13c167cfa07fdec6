use Rattle.std.proofs.Common.{ℕ, ap, true, replicate, ◌∙◌}
use Rattle.meta_regex.specs.Regexes.{config_by}
use Rattle.meta_regex.proofs.WordlessLemmas.{all_may}
use Rattle.meta_regex.proofs.compiled.Regex.may_match.Goals as goal

pub returns-in-Ok-clause-may : goal.returns-in-Ok-clause-may
returns-in-Ok-clause-may c =
    all_may (config_by c.args.self.now) c.args.self.now.texts c.args.haystack.now c.in-Ok.may.items
    (c.in-Ok.ensures ∙ ap (λ (n : ℕ). replicate n true) c.pattern_count.ensures)
