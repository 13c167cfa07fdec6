use Rattle.std.proofs.Common.{◌<◌, arith}
use Rattle.search_core.proofs.UnitLemmas.{units_byte}
use Rattle.search_core.proofs.StepLemmas.{step_goes}
use Rattle.search_core.proofs.class_iter.ByteClassIterIterator.next.Goals as goal

pub returns-clause-steps : goal.returns-clause-steps
returns-clause-steps c =
    let below : c.self.inside.next < c.self.inside.end = omega arith in
    let e = units_byte c.self.inside.end c.self.inside.next below in
    cc

pub returns-clause-goes : goal.returns-clause-goes
returns-clause-goes c =
    let below : c.self.inside.next < c.self.inside.end = omega arith in
    let e = units_byte c.self.inside.end c.self.inside.next below in
    step_goes _ _ _ (cc)
