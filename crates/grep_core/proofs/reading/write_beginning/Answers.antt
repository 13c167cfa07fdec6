use Rattle.std.proofs.Common.{◌≡◌, ◌+◌, ◌-◌, ◌∙◌, ℕ, List, arith, drop, length, refl, take}
use Rattle.std.proofs.lemmas.List.{take_rest}
use Rattle.grep_core.specs.Blocks.{finds_by}
use Rattle.grep_core.proofs.PieceLemmas.{first_failed, first_none, pieces_part, then_first}
use Rattle.grep_core.proofs.SeenLemmas.{moved_by}
use Rattle.grep_core.proofs.reading.write_beginning.Goals as goal

pub loop-pieces-init : goal.loop-pieces-init
loop-pieces-init g c = first_none c.requires

pub loop-pieces-preserved : goal.loop-pieces-preserved
loop-pieces-preserved g c = then_first refl c.loop-pieces.invariant c.in-Ok.ensures

pub returns-in-Err : goal.returns-in-Err
returns-in-Err g c =
    let read : List ℕ = c.args.read.now in
    let done : ℕ = c.loop-pieces.done in
    first_failed (c.in-Err.ensures.same ∙ c.loop-pieces.invariant.same)
    (λ by more. pieces_part c.args.task (finds_by c.args.task by) c.args.progress.now c.loop-pieces.progress read more
    (take (length read - done) (drop done read)) done
    (g.W.Write.contents c.args.writer.now) (g.W.Write.contents c.loop-pieces.writer) (g.W.Write.contents c.write_first.new.writer)
    (take_rest read done) (c.loop-pieces.invariant.writes by more)
    (c.in-Err.ensures.fault (moved_by c.loop-pieces.invariant.same by) more))

pub returns-then-next-eq0 : goal.returns-then-next-eq0
returns-then-next-eq0 g c =
    let none = c.if-next-eq0.true in
    let same : c.loop-pieces.done ≡ c.loop-pieces.done + c.in-Ok.next = omega (arith, none) in
    then_first same c.loop-pieces.invariant c.in-Ok.ensures
