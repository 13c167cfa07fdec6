use Rattle.std.proofs.Common.{◌-◌, ◌∙◌, ℕ, List, false, sym, subst, take, arith}
use Rattle.line_trees.proofs.ForCallers.{get_taken}
use Rattle.line_search.specs.Candidates.{IsNextLine}
use Rattle.line_search.specs.Searchers.{Sought}
use Rattle.line_search.specs.declared.patterns.PatternOptions.{PatternOptions}
use Rattle.line_search.proofs.PartLemmas.{next_in_part, next_after_part}
use Rattle.line_search.proofs.finder.Finder.search_line.Goals as goal

pub search_block-requires-clause-starts : goal.search_block-requires-clause-starts
search_block-requires-clause-starts c some =
    get_taken c.line_end-end.result c.args.block.now (c.args.at - 1) (omega (arith, some, c.line_end-end.ensures.from))
    ∙ c.requires.starts some

pub returns-then-reached-end-clause-next : goal.returns-then-reached-end-clause-next
returns-then-reached-end-clause-next c =
    subst (λ (s : Sought). IsNextLine s.how s.texts c.args.block.now c.args.at c.in_ok-reached.reached) c.self.view_is
    (next_in_part c.self.inside.patterns.now.0 c.self.inside.patterns.now.1 c.args.block.now c.args.at c.line_end-end.result
    c.line_end-end.ensures.within c.line_end-end.ensures.starts c.in_ok-reached.reached c.line_end-end.ensures.from
    (subst (λ (v : PatternOptions × List (List ℕ)). IsNextLine v.0 v.1 (take c.line_end-end.result c.args.block.now) c.args.at c.in_ok-reached.reached)
    c.self.invariant.2 c.in_ok-reached.ensures.reaches.next)
    (omega (arith, c.if-reached-end.true)))

pub returns-clause-next : goal.returns-clause-next
returns-clause-next c =
    subst (IsNextLine c.args.self.now.how c.args.self.now.texts c.args.block.now c.args.at) (sym c.here.ensures)
    (subst (λ (s : Sought). IsNextLine s.how s.texts c.args.block.now c.args.at
    (record { start = c.in_ok-reached.reached.start; has = false; passed = 0; gave_up = false })) c.self.view_is
    (next_after_part c.self.inside.patterns.now.0 c.self.inside.patterns.now.1 c.args.block.now c.args.at c.line_end-end.result
    c.line_end-end.ensures.within c.line_end-end.ensures.starts c.in_ok-reached.reached c.line_end-end.ensures.from
    (subst (λ (v : PatternOptions × List (List ℕ)). IsNextLine v.0 v.1 (take c.line_end-end.result c.args.block.now) c.args.at c.in_ok-reached.reached)
    c.self.invariant.2 c.in_ok-reached.ensures.reaches.next)
    (omega (arith, c.if-reached-end.false))))
