use Rattle.std.proofs.Common.{◌∷◌, [], subst}
use Rattle.hir_core.specs.Tree.{Tree}
use Rattle.line_trees.specs.LineTrees.{line_tree}
use Rattle.hir_regex.specs.Built.{IsBuilt, FailsBuild}
use Rattle.line_search.specs.Searchers.{line_settings}
use Rattle.line_search.proofs.candidates.wordless_regex.Goals as goal

pub returns-in-Ok-line_regex-clause-built : goal.returns-in-Ok-line_regex-clause-built
returns-in-Ok-line_regex-clause-built c =
    subst (λ (x : Tree). IsBuilt (line_tree c.args.crlf x ∷ []) line_settings c.in-Ok-line_regex.regex.value) c.in-Ok.ensures
    c.in-Ok-line_regex.ensures.built

pub returns-clause-refused : goal.returns-clause-refused
returns-clause-refused c =
    subst (λ (x : Tree). FailsBuild (line_tree c.args.crlf x ∷ []) line_settings c.in-Err.e) c.in-Ok.ensures c.in-Err.ensures.refused
