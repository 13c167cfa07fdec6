use Rattle.std.proofs.Common.{map}
use Rattle.ffi_core.proofs.TextLemmas.{IsCutSoFar}
use Rattle.ffi_core.proofs.texts.patterns_of.Given as goal

-- the patterns so far are cut off
abbrev pub invariant-loop-number : goal.invariant-loop-number
invariant-loop-number l = IsCutSoFar l.fn.lengths l.fn.bytes l.number (map (λ t. t.now) l.texts.items) l.rest
