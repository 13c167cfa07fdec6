use Rattle.std.proofs.Common.{subst}
use Rattle.regex_syntax.specs.declared.Config.{Config}
use Rattle.group_finder.specs.Errors.{IsNewError}
use Rattle.captures.proofs.pattern_groups.groups_of.Goals as goal

pub returns-in-Err-clause-refused : goal.returns-in-Err-clause-refused
returns-in-Err-clause-refused c limit =
    subst (λ (config : Config). IsNewError config c.args.text.now limit c.in-Err.error) c.options.ensures (c.in-Err.ensures.refused limit)
