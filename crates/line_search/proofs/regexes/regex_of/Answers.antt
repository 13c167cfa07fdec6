use Rattle.std.proofs.Common.{◌∷◌, [], List, sym, subst}
use Rattle.hir_core.specs.Tree.{Tree}
use Rattle.regex_pair.specs.Pairs.{Pair}
use Rattle.hir_regex.specs.Built.{IsBuilt, FailsBuild}
use Rattle.hir_regex.specs.declared.settings.Settings.{Settings}
use Rattle.line_search.specs.Searchers.{line_settings}
use Rattle.line_search.proofs.regexes.regex_of.Goals as goal

pub returns-in-Ok-shared-clause-built : goal.returns-in-Ok-shared-clause-built
returns-in-Ok-shared-clause-built c =
    subst (λ (p : Pair). IsBuilt (c.args.tree.now ∷ []) line_settings p) (sym c.in-Ok-shared.ensures)
    (subst (λ (xs : List Tree). IsBuilt xs line_settings c.in-Ok.regex) c.from_ref.ensures.value
    (subst (λ (s : Settings). IsBuilt c.from_ref.result.now s c.in-Ok.regex) c.settings.ensures c.in-Ok.ensures.built))

pub returns-in-Err-clause-refused : goal.returns-in-Err-clause-refused
returns-in-Err-clause-refused c =
    subst (λ (xs : List Tree). FailsBuild xs line_settings c.in-Err.e) c.from_ref.ensures.value
    (subst (λ (s : Settings). FailsBuild c.from_ref.result.now s c.in-Err.e) c.settings.ensures c.in-Err.ensures.refused)
