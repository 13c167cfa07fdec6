use Rattle.std.proofs.Common.{◌≡◌, IfSome, sym, subst}
use Rattle.hir_core.specs.Tree.{alternation}
use Rattle.literal_search.specs.Searches.{IsBegunBy}
use Rattle.literal_search.proofs.SearchLemmas.{begun_cut}
use Rattle.literal_search.proofs.candidates.CandidateFinder.beginnings_of_all.Goals as goal

pub returns-in-Some : goal.returns-in-Some
returns-in-Some c =
    let literals = c.in_ok-or_shared_prefix.field-0 in
    let same = subst (λ made. IfSome made (λ f. f ≡ literals)) c.in-Some.is c.in_ok-finder.ensures in
    subst (λ ls. IsBegunBy ls (alternation c.args.trees.now)) (sym same)
    (begun_cut c.in_ok-all.all literals (alternation c.args.trees.now) c.in_ok-all.ensures c.in_ok-or_shared_prefix.ensures)
