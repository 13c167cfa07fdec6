use Rattle.std.proofs.Common.{refl}
use Rattle.literal_search.proofs.RequiredLemmas.{union_whole}
use Rattle.literal_search.proofs.sets.union.Goals as goal

pub returns-then-len-le-MAX_LITERALS : goal.returns-then-len-le-MAX_LITERALS
returns-then-len-le-MAX_LITERALS c =
    union_whole c.args.first c.args.second.now c.args.exact _ c.in_ok-append.ensures.keeps c.in_ok-append.ensures.added refl
