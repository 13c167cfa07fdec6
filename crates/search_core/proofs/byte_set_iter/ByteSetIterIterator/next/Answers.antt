use Rattle.search_core.specs.ByteSets.{has}
use Rattle.search_core.proofs.ByteSetLemmas.{bytes_where-some, bytes_where-ended}
use Rattle.search_core.proofs.StepLemmas.{step_ends, step_goes}
use Rattle.search_core.proofs.byte_set_iter.ByteSetIterIterator.next.Goals as goal

pub returns-in_err-byte-clause-steps : goal.returns-in_err-byte-clause-steps
returns-in_err-byte-clause-steps c =
    let e = bytes_where-ended (has c.self.inside.set.now) c.self.inside.from 256 c.next_member.result c.in_err-byte.was
    c.next_member.ensures in
    step_ends _ _ (cc) (cc)

pub returns-clause-steps : goal.returns-clause-steps
returns-clause-steps c =
    let e = bytes_where-some (has c.self.inside.set.now) c.self.inside.from 256 c.next_member.result c.in_ok-byte.byte c.in_ok-byte.was
    c.next_member.ensures in
    cc

pub returns-clause-goes : goal.returns-clause-goes
returns-clause-goes c =
    let e = bytes_where-some (has c.self.inside.set.now) c.self.inside.from 256 c.next_member.result c.in_ok-byte.byte c.in_ok-byte.was
    c.next_member.ensures in
    step_goes _ _ _ (cc)
