use Rattle.std.proofs.Common.{◌≡◌, ◌++◌, replicate, string_bytes}
use Rattle.json_events.proofs.elapsed.push_zeros.Given as goal

abbrev pub invariant-loop-zero : goal.invariant-loop-zero
invariant-loop-zero l = string_bytes l.text ≡ string_bytes l.fn.text ++ replicate l._zero 48
