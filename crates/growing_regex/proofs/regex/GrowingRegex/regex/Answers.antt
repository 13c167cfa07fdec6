use Rattle.std.proofs.Common.{ap, ◌∙◌}
use Rattle.growing_regex.specs.Growing.{Growing}
use Rattle.growing_regex.proofs.regex.GrowingRegex.regex.Goals as goal

pub returns : goal.returns
returns c = c.in_ok-regex.ensures ∙ ap (λ (g : Growing). g.pair) c.self.view_is
