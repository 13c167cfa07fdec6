use Rattle.std.proofs.Common.{◌∷◌, [], ap, sym, ◌∙◌, refl, subst}
use Rattle.regex_pair.specs.Pairs.{Pair}
use Rattle.growing_regex.specs.Growing.{Growing}
use Rattle.line_trees.specs.LineTrees.{line_tree}
use Rattle.hir_regex.specs.Built.{IsBuilt}
use Rattle.line_search.specs.Candidates.{searched_tree}
use Rattle.line_search.specs.Searchers.{line_settings}
use Rattle.line_search.proofs.candidates.block_search.Goals as goal

pub returns-clause-candidates : goal.returns-clause-candidates
returns-clause-candidates c how texts exact feedless mean reads built = record {
  same = refl;
  tree = c.args.tree.now;
  mean = mean;
  plain = sym c.has_crlf.ensures ∙ c.if-has_crlf.false;
  feedless = reads;
  built = subst (λ (p : Pair). IsBuilt (line_tree how.crlf (searched_tree exact c.args.tree.now) ∷ []) line_settings p)
      (ap (λ (g : Growing). g.pair) (sym c.in_ok-search.ensures)) built;
}
