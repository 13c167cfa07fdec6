use Rattle.std.proofs.Common.{◌≡◌, ◌+◌, ◌*◌, drop}
use Rattle.hir_core.specs.Tree.{alternation, concat}
use Rattle.hir_core.specs.Weight.{weight}
use Rattle.meta_regex.specs.FirstBytes.{may_begin}
use Rattle.meta_regex.proofs.first_bytes.+may_begin.Given as goal

abbrev pub decreases-may_begin : goal.decreases-may_begin
decreases-may_begin l = 2 * weight l.x.now + 1

abbrev pub decreases-sequence_may_begin : goal.decreases-sequence_may_begin
decreases-sequence_may_begin l = 2 * weight (concat l.xs.now)

abbrev pub decreases-any_may_begin : goal.decreases-any_may_begin
decreases-any_may_begin l = 2 * weight (concat l.xs.now)

abbrev pub invariant-sequence_may_begin-loop-x : goal.invariant-sequence_may_begin-loop-x
invariant-sequence_may_begin-loop-x l = may_begin (concat l.xs) l.byte ≡ may_begin (concat (drop l.x-index l.xs)) l.byte

abbrev pub invariant-any_may_begin-loop-x : goal.invariant-any_may_begin-loop-x
invariant-any_may_begin-loop-x l = may_begin (alternation l.xs) l.byte ≡ may_begin (alternation (drop l.x-index l.xs)) l.byte
