use Rattle.std.proofs.Common.{refl}
use Rattle.literal_search.proofs.RequiredLemmas.{followed_required}
use Rattle.literal_search.proofs.required.followed.Goals as goal

pub returns : goal.returns
returns c =
    followed_required c.args.first c.args.second _ c.in_ok-both.both c.rarer-2.result c.in_ok-whole.whole c.if-not-first.false
    c.in_ok-both.ensures refl refl c.in_ok-whole.ensures c.rarer-2.ensures c.rarer-3.ensures
