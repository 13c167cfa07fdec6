use Rattle.std.proofs.Common.{◌≡◌, ◌+◌, ◌==◌, not, drop}
use Rattle.std.specs.List.{prefix_len}
use Rattle.templates.proofs.reading.len_before.Given as goal

abbrev pub invariant-loop-i : goal.invariant-loop-i
invariant-loop-i l = prefix_len (λ b. not (b == l.byte)) l.bytes ≡ l.i + prefix_len (λ b. not (b == l.byte)) (drop l.i l.bytes)
