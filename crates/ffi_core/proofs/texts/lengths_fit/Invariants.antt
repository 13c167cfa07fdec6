use Rattle.std.proofs.Common.{◌≡◌, ◌+◌, drop, length}
use Rattle.ffi_core.proofs.TextLemmas.{total}
use Rattle.ffi_core.proofs.texts.lengths_fit.Given as goal

-- the lengths that are left sum to what is left of the bytes as all of them do to all bytes
abbrev pub invariant-loop-length : goal.invariant-loop-length
invariant-loop-length l = total (drop l.length-index l.lengths) + length l.bytes ≡ total l.lengths + l.left
