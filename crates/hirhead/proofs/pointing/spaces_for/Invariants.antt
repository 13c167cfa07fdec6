use Rattle.std.proofs.Common.{string_bytes, ◌≡◌, length, replicate}
use Rattle.hirhead.proofs.pointing.spaces_for.Given as goal

abbrev pub invariant-loop-c : goal.invariant-loop-c
invariant-loop-c l = string_bytes l.spaces ≡ replicate (length l.yielded) 32
