use Rattle.std.proofs.Common.{◌∷◌, [], Option, sym, ◌∙◌, subst}
use Rattle.std.specs.Prelude.{IfSome, option_map, true}
use Rattle.line_trees.specs.LineTrees.{line_tree}
use Rattle.line_search.specs.Candidates.{block_regex, searched_tree}
use Rattle.line_search.proofs.CandidateLemmas.{EndsAt, StopsAt, all_passed, lines_passed, match_known, stops_in_line}
use Rattle.line_search.proofs.candidates.BlockFacts.reached.Goals as goal

pub returns-in-None-clause-passed : goal.returns-in-None-clause-passed
returns-in-None-clause-passed c how texts re it stop =
    all_passed how texts (block_regex re c.args.self.now) c.args.block.now c.args.at it c.see_bytes.ensures c.requires.starts
    (subst (StopsAt (line_tree how.crlf (searched_tree c.args.self.now.exact it.tree) ∷ []) c.args.block.now c.args.at) c.in-None.is stop)

pub returns-in-Some-clause-passed : goal.returns-in-Some-clause-passed
returns-in-Some-clause-passed c how texts re it stop =
    lines_passed how texts (block_regex re c.args.self.now) c.args.block.now c.args.at it c.see_bytes.ensures c.requires.starts c.in-Some.stop.place
    c.line_start-start.result
    (subst (StopsAt (line_tree how.crlf (searched_tree c.args.self.now.exact it.tree) ∷ []) c.args.block.now c.args.at) c.in-Some.is stop)
    c.line_start-start.ensures.within c.line_start-start.ensures.before c.line_start-start.ensures.starts

pub returns-in-Some-clause-has : goal.returns-in-Some-clause-has
returns-in-Some-clause-has c how texts re it ends known =
    match_known how texts (block_regex re c.args.self.now) c.args.block.now c.args.at c.line_start-start.result c.in-Some.stop.place
    c.in-Some.stop.is_end it
    c.see_bytes.ensures c.requires.starts c.line_start-start.ensures.within c.line_start-start.ensures.from
    c.line_start-start.ensures.before c.line_start-start.ensures.starts
    (subst (EndsAt (line_tree how.crlf (searched_tree c.args.self.now.exact it.tree) ∷ []) c.args.block.now c.args.at) c.in-Some.is ends)
    c.line_start-start.ensures.last (sym c.is_known.ensures ∙ known)

pub returns-in-Some-clause-stops : goal.returns-in-Some-clause-stops
returns-in-Some-clause-stops c xs stop below =
    stops_in_line xs c.args.block.now c.args.at c.line_start-start.result c.in-Some.stop.place
    (subst (StopsAt xs c.args.block.now c.args.at) c.in-Some.is stop)
    c.line_start-start.ensures.before c.line_start-start.ensures.last
