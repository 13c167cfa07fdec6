use Rattle.std.proofs.Common.{◌∷◌, [], Bool, not, ap, sym, true, subst}
use Rattle.line_trees.specs.LineTrees.{line_tree, reads_feed}
use Rattle.hir_regex.specs.Built.{IsBuilt}
use Rattle.line_search.specs.declared.patterns.PatternOptions.{PatternOptions}
use Rattle.line_search.specs.Candidates.{searched_tree}
use Rattle.line_search.specs.Searchers.{line_settings}
use Rattle.line_search.proofs.CandidateLemmas.{feedless_not}
use Rattle.line_search.proofs.candidate_finder.exact_candidates.Goals as goal

pub returns : goal.returns
returns c =
    c.in-Ok-block_search.ensures.candidates c.args.patterns.now.0 c.args.patterns.now.1 true (not (reads_feed c.args.tree.now))
    c.requires.tree (feedless_not c.args.tree.now)
    (subst (λ (v : Bool). IsBuilt (line_tree v (searched_tree true c.args.tree.now) ∷ []) line_settings c.in-Ok.regex.value)
    (ap (λ (h : PatternOptions). h.crlf) c.how-crlf.ensures) c.in-Ok.ensures.built)
