use Rattle.std.proofs.Common.{◌∙◌, ap}
use Rattle.growing_regex.specs.Growing.{Growing}
use Rattle.meta_regex.proofs.CacheLemmas.{capacity_kept}
use Rattle.meta_regex.proofs.compiled.Regex.growing.Goals as goal

pub returns-in-Ok-new-clause-same : goal.returns-in-Ok-new-clause-same
returns-in-Ok-new-clause-same c = ap (λ (g : Growing). g.pair) c.in-Ok-new.ensures ∙ c.in-Ok.ensures

pub returns-in-Ok-new-clause-capacity : goal.returns-in-Ok-new-clause-capacity
returns-in-Ok-new-clause-capacity c =
    capacity_kept c.args.self.now c.options.result c.in-Ok-new.growing c.in-Ok.regex.value c.largest_for.result c.options.ensures
    c.largest_for.ensures c.in-Ok-new.ensures
