use Rattle.std.proofs.Common.{◌≡◌, ◌∷◌, [], length, sym, subst, ◌∙◌, IfSome}
use Rattle.literal_search.specs.Literals.{BeginsBy}
use Rattle.literal_search.specs.Searches.{AdvancesTo, IsLiteralStop}
use Rattle.literal_search.proofs.SearchLemmas.{stop_of_near, stop_after}
use Rattle.literal_search.proofs.searching.LiteralSearch.find_at.Goals as goal

pub returns-in-At : goal.returns-in-At
returns-in-At c =
    let h = c.args.haystack.now in
    let only = sym c.self.view_is ∙ subst (λ o. IfSome o (λ p. c.self.inside.filter ≡ p.literal.items ∷ [])) c.in-Some.is c.self.invariant in
    subst (λ ls. AdvancesTo ls h c.args.from c.in-At.at × BeginsBy ls h c.in-At.at (length h)) (sym only)
    (stop_of_near h c.in-Some.pair.literal.items c.args.from c.in-At.at c.in-At.ensures)

pub returns-in-Passed : goal.returns-in-Passed
returns-in-Passed c =
    let h = c.args.haystack.now in
    let only = sym c.self.view_is ∙ subst (λ o. IfSome o (λ p. c.self.inside.filter ≡ p.literal.items ∷ [])) c.in-Some.is c.self.invariant in
    let stop = c.filter_at-in-Passed.result in
    subst (λ ls. IsLiteralStop ls h c.args.from stop) (sym only)
    (stop_after h c.in-Some.pair.literal.items c.args.from c.in-Passed.at c.in-Passed.ensures stop
    (subst (λ ls. IsLiteralStop ls h c.in-Passed.at stop) only c.filter_at-in-Passed.ensures))
