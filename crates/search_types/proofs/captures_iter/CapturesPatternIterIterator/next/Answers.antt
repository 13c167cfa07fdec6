use Rattle.std.proofs.Common.{◌<◌, arith}
use Rattle.search_types.proofs.CapturesLemmas.{spans_first}
use Rattle.search_types.proofs.captures_iter.CapturesPatternIterIterator.next.Goals as goal
use Rattle.search_core.proofs.ForCallers.{step_goes}

pub returns-clause-steps : goal.returns-clause-steps
returns-clause-steps c =
    let below : c.self.inside.next < c.self.inside.end = omega arith in
    let e = spans_first c.self.inside.captures.now c.self.inside.next c.self.inside.end below in
    cc

pub returns-clause-goes : goal.returns-clause-goes
returns-clause-goes c =
    let below : c.self.inside.next < c.self.inside.end = omega arith in
    let e = spans_first c.self.inside.captures.now c.self.inside.next c.self.inside.end below in
    step_goes _ _ _ (cc)
