use Rattle.literal_search.proofs.PairLemmas.{near_after}
use Rattle.literal_search.proofs.pair.PairSearch.find.Goals as goal

pub returns-else-end-at-ge-ROOM : goal.returns-else-end-at-ge-ROOM
returns-else-end-at-ge-ROOM c =
    let near = c.in-Passed.ensures.near in
    near_after c.args.self.now.literal.items c.args.haystack.now c.args.from c.in-Passed.at near.0 near.2 _ c.find_far.ensures
