use Rattle.std.proofs.Common.{subst, ◌∙◌}
use Rattle.regex_syntax.specs.declared.Config.{Config}
use Rattle.group_finder.specs.Patterns.{IsNamedBy}
use Rattle.line_search.specs.Meant.{line_config}
use Rattle.line_search.proofs.NumberedLemmas.{names_known}
use Rattle.line_search.proofs.pattern_groups.names_of.Goals as goal

pub returns-in-Ok : goal.returns-in-Ok
returns-in-Ok c =
    names_known (line_config c.args.how.now) c.args.text.now c.in-Ok.names
    (subst (λ (k : Config). IsNamedBy k c.args.text.now c.in-Ok.names) (c.options.ensures ∙ c.config_of.ensures) c.in-Ok.ensures.made)
