use Rattle.search_core.proofs.UnitLemmas.{elements_byte, elements_ended}
use Rattle.search_core.proofs.StepLemmas.{step_ends, step_goes}
use Rattle.search_core.proofs.class_iter.ByteClassElementsIterator.next.Goals as goal

pub returns-in_err-byte-in-Byte-clause-steps : goal.returns-in_err-byte-in-Byte-clause-steps
returns-in_err-byte-in-Byte-clause-steps c =
    let e = elements_ended c.self.inside.classes.now c.self.inside.class c.in-Byte.class c.self.inside.from c.next_in_class.result
    c.in-Byte.is c.in_err-byte-in-Byte.was c.next_in_class.ensures in
    step_ends _ _ (cc) (cc)

pub returns-in_ok-byte-in-Byte-clause-steps : goal.returns-in_ok-byte-in-Byte-clause-steps
returns-in_ok-byte-in-Byte-clause-steps c =
    let e = elements_byte c.self.inside.classes.now c.self.inside.class c.in-Byte.class c.self.inside.from c.in_ok-byte-in-Byte.byte
    c.next_in_class.result c.in-Byte.is c.in_ok-byte-in-Byte.was c.next_in_class.ensures in
    cc

pub returns-in_ok-byte-in-Byte-clause-goes : goal.returns-in_ok-byte-in-Byte-clause-goes
returns-in_ok-byte-in-Byte-clause-goes c =
    let e = elements_byte c.self.inside.classes.now c.self.inside.class c.in-Byte.class c.self.inside.from c.in_ok-byte-in-Byte.byte
    c.next_in_class.result c.in-Byte.is c.in_ok-byte-in-Byte.was c.next_in_class.ensures in
    step_goes _ _ _ (cc)
