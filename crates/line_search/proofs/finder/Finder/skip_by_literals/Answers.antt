use Rattle.std.proofs.Common.{ℕ, List, Option, sym, subst}
use Rattle.std.specs.Prelude.{IfSome}
use Rattle.line_search.specs.Candidates.{IsNextLine}
use Rattle.line_search.specs.LiteralLines.{AreLiteralsOf}
use Rattle.line_search.specs.Searchers.{Sought}
use Rattle.line_search.proofs.CandidateLemmas.{here_is_next}
use Rattle.line_search.proofs.finder.Finder.skip_by_literals.Goals as goal

pub returns-in_default-clause-next : goal.returns-in_default-clause-next
returns-in_default-clause-next c =
    subst (IsNextLine c.args.self.now.how c.args.self.now.texts c.args.block.now c.args.at) (sym c.here.ensures)
    (here_is_next c.args.self.now.how c.args.self.now.texts c.args.block.now c.args.at c.requires.within c.requires.starts)

pub returns-clause-next : goal.returns-clause-next
returns-clause-next c =
    subst (λ (s : Sought). IsNextLine s.how s.texts c.args.block.now c.args.at c.next_with_literal.result) c.self.view_is
    (c.next_with_literal.ensures.next c.self.inside.patterns.now.0 c.self.inside.patterns.now.1
    (subst (λ (o : Option (List (List ℕ))). IfSome o (AreLiteralsOf c.self.inside.patterns.now.0 c.self.inside.patterns.now.1)) c.in-Some.is
    c.self.invariant.3)
    (c.borrowed-strings.ensures c.self.inside.patterns.now.0 c.self.inside.patterns.now.1 c.self.invariant.4))
