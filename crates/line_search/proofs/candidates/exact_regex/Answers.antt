use Rattle.std.proofs.Common.{◌∷◌, [], sym, subst, ◌∙◌}
use Rattle.hir_core.specs.Tree.{Tree}
use Rattle.regex_pair.specs.Pairs.{Pair}
use Rattle.hir_regex.specs.Built.{IsBuilt}
use Rattle.line_search.specs.Searchers.{line_settings}
use Rattle.line_search.proofs.EdgeLemmas.{line_tree_kept}
use Rattle.line_search.proofs.candidates.exact_regex.Goals as goal

pub returns-in-Ok-regex-clause-built : goal.returns-in-Ok-regex-clause-built
returns-in-Ok-regex-clause-built c =
    subst (λ (x : Tree). IsBuilt (x ∷ []) line_settings c.in-Ok-regex.regex.value)
    (sym (line_tree_kept c.args.crlf c.args.tree.now (sym c.asks_for_edge.ensures ∙ c.if-asks_for_edge.false)))
    (subst (λ (p : Pair). IsBuilt (c.args.tree.now ∷ []) line_settings p) (sym c.in-Ok-regex.ensures) c.requires)
