use Rattle.literal_search.proofs.PairLemmas.{near_after}
use Rattle.literal_search.proofs.pair.PairSearch.find_far.Goals as goal

pub returns : goal.returns
returns c =
    near_after c.args.self.now.literal.items c.args.haystack.now c.args.from c.skip-far.result c.skip-far.ensures.low c.skip-far.ensures.passed _
    c.find_below.ensures.near
