use Rattle.std.proofs.Common.{◌≡◌, take}
use Rattle.meta_regex.specs.Regexes.{overlaid}
use Rattle.ffi_core.proofs.words.write_into.Given as goal

-- the bytes so far are in the buffer
abbrev pub invariant-loop-at : goal.invariant-loop-at
invariant-loop-at l = l.room ≡ overlaid (take l.at l.fn.bytes) l.fn.room
