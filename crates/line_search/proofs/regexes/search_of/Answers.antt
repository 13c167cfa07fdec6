use Rattle.std.proofs.Common.{◌∷◌, [], ap, sym, subst}
use Rattle.growing_regex.specs.Growing.{Growing}
use Rattle.regex_pair.specs.Pairs.{Pair}
use Rattle.hir_regex.specs.Built.{IsBuilt}
use Rattle.line_search.specs.Searchers.{line_settings}
use Rattle.line_search.proofs.regexes.search_of.Goals as goal

pub returns-in-Ok-new-clause-built : goal.returns-in-Ok-new-clause-built
returns-in-Ok-new-clause-built c =
    subst (λ (p : Pair). IsBuilt (c.args.tree.now ∷ []) line_settings p) (ap (λ (g : Growing). g.pair) (sym c.in-Ok-new.ensures))
    c.in-Ok.ensures.built
