use Rattle.std.proofs.Common.{◌≡◌, ◌<◌, ◌≤◌, [], arith}
use Rattle.search_core.proofs.UnitLemmas.{first_byte, first_bounded, first_past, first_end}
use Rattle.search_core.proofs.StepLemmas.{step_goes}
use Rattle.search_core.proofs.class_iter.ByteClassRepresentativesIterator.next.Goals as goal

pub returns-in-Some-clause-steps : goal.returns-in-Some-clause-steps
returns-in-Some-clause-steps c =
    let e = first_byte c.self.inside.classes.now c.self.inside.lo c.self.inside.hi c.self.inside.from c.in-Some.byte c.next_first.result
    c.in-Some.is c.next_first.ensures in
    cc

pub returns-in-Some-clause-goes : goal.returns-in-Some-clause-goes
returns-in-Some-clause-goes c =
    let e = first_byte c.self.inside.classes.now c.self.inside.lo c.self.inside.hi c.self.inside.from c.in-Some.byte c.next_first.result
    c.in-Some.is c.next_first.ensures in
    step_goes _ _ _ (cc)

pub returns-in-Some-hi-clause-steps : goal.returns-in-Some-hi-clause-steps
returns-in-Some-hi-clause-steps c =
    let e = first_bounded c.self.inside.classes.now c.self.inside.lo c.self.inside.hi c.self.inside.from c.in-Some-hi.field-0
    c.next_first.result c.in-None.is c.in-Some-hi.is c.next_first.ensures in
    let none : c.args.self.now ≡ [] = cc in
    (none, none)

pub returns-in-None-hi-clause-steps : goal.returns-in-None-hi-clause-steps
returns-in-None-hi-clause-steps c =
    let past : 256 < c.self.inside.from = omega arith in
    let e = first_past c.self.inside.classes.now c.self.inside.lo c.self.inside.hi c.self.inside.from c.next_first.result c.in-None.is
    c.in-None-hi.is past c.next_first.ensures in
    let none : c.args.self.now ≡ [] = cc in
    (none, none)

pub returns-in-None-2-clause-steps : goal.returns-in-None-2-clause-steps
returns-in-None-2-clause-steps c =
    let within : c.self.inside.from ≤ 256 = omega arith in
    let e = first_end c.self.inside.classes.now c.self.inside.lo c.self.inside.hi c.self.inside.from c.next_first.result c.in-None.is
    c.in-None-2.is within c.next_first.ensures in
    cc

pub returns-in-None-2-clause-goes : goal.returns-in-None-2-clause-goes
returns-in-None-2-clause-goes c =
    let within : c.self.inside.from ≤ 256 = omega arith in
    let e = first_end c.self.inside.classes.now c.self.inside.lo c.self.inside.hi c.self.inside.from c.next_first.result c.in-None.is
    c.in-None-2.is within c.next_first.ensures in
    step_goes _ _ _ (cc)
