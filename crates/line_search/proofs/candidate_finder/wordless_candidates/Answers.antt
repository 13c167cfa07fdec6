use Rattle.std.proofs.Common.{◌∷◌, [], Bool, ap, sym, false, true≢false, subst}
use Rattle.line_trees.specs.LineTrees.{line_tree}
use Rattle.hir_regex.specs.Built.{IsBuilt}
use Rattle.line_search.specs.declared.patterns.PatternOptions.{PatternOptions}
use Rattle.line_search.specs.Candidates.{searched_tree}
use Rattle.line_search.specs.Searchers.{line_settings}
use Rattle.line_search.proofs.MatchLemmas.{for_lines}
use Rattle.line_search.proofs.candidate_finder.wordless_candidates.Goals as goal

pub returns : goal.returns
returns c =
    c.in-Ok-block_search.ensures.candidates c.args.patterns.now.0 c.args.patterns.now.1 false false
    (for_lines c.args.patterns.now.0 c.args.patterns.now.1 _ c.in-Ok.ensures.tree) (λ is. absurd (true≢false (sym is)))
    (subst (λ (v : Bool). IsBuilt (line_tree v (searched_tree false c.in-Ok.tree.now) ∷ []) line_settings c.in-Ok-wordless_regex.regex.value)
    (ap (λ (h : PatternOptions). h.crlf) c.how-crlf.ensures) c.in-Ok-wordless_regex.ensures.built)
