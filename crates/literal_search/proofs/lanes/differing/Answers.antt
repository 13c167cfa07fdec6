use Rattle.std.proofs.Common.{cond, eqb, get_or, replicate, sym, subst, w8}
use Rattle.regex_literal.proofs.lemmas.LaneLemmas.{HasLanes-compared}
use Rattle.regex_literal.specs.Lanes.{HasLanes}
use Rattle.std.proofs.lemmas.Simd.{tops_compared}
use Rattle.std.specs.Simd.Lanes.{sel_l}
use Rattle.literal_search.proofs.lanes.differing.Goals as goal

pub returns : goal.returns
returns c =
    let a = c.args.first in
    let b = c.args.second in
    subst (λ ms. HasLanes (sel_l ms (replicate 32 0) (replicate 32 255)) (λ k. cond (eqb (get_or a k 0) (get_or b k 0)) 0 255))
    (sym (tops_compared w8 eqb a b)) (HasLanes-compared eqb a b 0 255 c.fits-first.0 c.fits-second.0)
