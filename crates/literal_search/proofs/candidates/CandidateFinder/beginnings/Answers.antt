use Rattle.std.proofs.Common.{◌≡◌, IfSome, sym, subst}
use Rattle.literal_search.specs.Searches.{IsBegunBy}
use Rattle.literal_search.proofs.SearchLemmas.{begun_cut}
use Rattle.literal_search.proofs.candidates.CandidateFinder.beginnings.Goals as goal

pub returns-in-Some : goal.returns-in-Some
returns-in-Some c =
    let literals = c.in_ok-or_shared_prefix.field-0 in
    let same = subst (λ made. IfSome made (λ f. f ≡ literals)) c.in-Some.is c.in_ok-finder.ensures in
    subst (λ ls. IsBegunBy ls c.args.tree.now) (sym same)
    (begun_cut c.in_ok-required.required literals c.args.tree.now c.in_ok-required.ensures c.in_ok-or_shared_prefix.ensures)
