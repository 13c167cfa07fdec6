use Rattle.std.proofs.Common.{◌∷◌, [], subst}
use Rattle.hir_core.specs.Tree.{Tree}
use Rattle.hir_regex.specs.Built.{IsBuilt, FailsBuild}
use Rattle.line_search.specs.Searchers.{line_settings}
use Rattle.line_search.proofs.candidates.line_regex.Goals as goal

pub returns-in-Ok-regex_of-clause-built : goal.returns-in-Ok-regex_of-clause-built
returns-in-Ok-regex_of-clause-built c =
    subst (λ (x : Tree). IsBuilt (x ∷ []) line_settings c.in-Ok-regex_of.regex.value) c.in-Ok.ensures c.in-Ok-regex_of.ensures.built

pub returns-clause-refused : goal.returns-clause-refused
returns-clause-refused c =
    subst (λ (x : Tree). FailsBuild (x ∷ []) line_settings c.in-Err.e) c.in-Ok.ensures c.in-Err.ensures.refused
