use Rattle.std.proofs.Common.{length, ◌+◌, subst}
use Rattle.literal_search.specs.Literals.{BeginsBy}
use Rattle.literal_search.specs.Searches.{NoneBegins, AdvancesTo}
use Rattle.literal_search.proofs.SearchLemmas.{stop_of_first, none_of_nowhere, stop_of_before}
use Rattle.literal_search.proofs.searching.LiteralSearch.filter_at.Goals as goal

pub returns-in-Found : goal.returns-in-Found
returns-in-Found c =
    let h = c.args.haystack.now in
    subst (λ ls. AdvancesTo ls h c.args.from c.in-Found.at × BeginsBy ls h c.in-Found.at (length h)) c.self.view_is
    (stop_of_first c.self.inside.filter h c.args.from c.in-Found.at c.in-Found.field-1 c.in-Found.ensures.bounded)

pub returns-in-Missing : goal.returns-in-Missing
returns-in-Missing c =
    let h = c.args.haystack.now in
    subst (λ ls. NoneBegins ls h c.args.from (length h + 1)) c.self.view_is
    (none_of_nowhere c.self.inside.filter h c.args.from (length h + 1) c.in-Missing.ensures.bounded)

pub returns-in-Tired : goal.returns-in-Tired
returns-in-Tired c =
    let h = c.args.haystack.now in (
      (c.find_bounded.ensures.tires c.in-Tired.at c.in-Tired.is).0,
      subst (λ ls. AdvancesTo ls h c.args.from c.in-Tired.at) c.self.view_is
          (stop_of_before c.self.inside.filter h c.args.from c.in-Tired.at c.in-Tired.ensures.bounded),
    )
