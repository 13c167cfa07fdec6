use Rattle.std.proofs.Common.{ℕ, ap, map}
use Rattle.search_core.specs.ByteSets.{starts_range, range_end}
use Rattle.search_core.proofs.ByteSetLemmas.{bytes_where-some, bytes_where-ended}
use Rattle.search_core.proofs.StepLemmas.{step_ends, step_goes}
use Rattle.search_core.proofs.byte_set_iter.ByteSetRangeIterIterator.next.Goals as goal

pub returns-in_err-start-clause-steps : goal.returns-in_err-start-clause-steps
returns-in_err-start-clause-steps c =
    let set = c.self.inside.set.now in
    let f : ℕ → ℕ × ℕ = λ b. (b, range_end set b) in
    let e = ap (map f) (bytes_where-ended (starts_range set) c.self.inside.from 256 c.next_start.result c.in_err-start.was
    c.next_start.ensures) in
    step_ends _ _ (cc) (cc)

pub returns-clause-steps : goal.returns-clause-steps
returns-clause-steps c =
    let set = c.self.inside.set.now in
    let f : ℕ → ℕ × ℕ = λ b. (b, range_end set b) in
    let e = ap (map f) (bytes_where-some (starts_range set) c.self.inside.from 256 c.next_start.result c.in_ok-start.start c.in_ok-start.was
    c.next_start.ensures) in
    cc

pub returns-clause-goes : goal.returns-clause-goes
returns-clause-goes c =
    let set = c.self.inside.set.now in
    let f : ℕ → ℕ × ℕ = λ b. (b, range_end set b) in
    let e = ap (map f) (bytes_where-some (starts_range set) c.self.inside.from 256 c.next_start.result c.in_ok-start.start c.in_ok-start.was
    c.next_start.ensures) in
    step_goes _ _ _ (cc)
