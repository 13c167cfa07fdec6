use Rattle.std.proofs.Common.{refl}
use Rattle.literal_search.proofs.RequiredLemmas.{joined_whole, joined_cut}
use Rattle.literal_search.proofs.sets.join.Goals as goal

pub returns-then-total_len-le-MAX_BYTES : goal.returns-then-total_len-le-MAX_BYTES
returns-then-total_len-le-MAX_BYTES c =
    joined_whole c.args.first.now c.args.second.now c.args.exact _ c.in_ok-literals.ensures refl

pub returns : goal.returns
returns c =
    joined_cut c.args.first.now c.args.second.now c.in_ok-short.short c.args.exact _ c.in_ok-short.ensures c.in_ok-literals-2.ensures refl
