use Rattle.std.proofs.Common.{◌≡◌, drop}
use Rattle.grep_options.specs.Sizes.{digits_from}
use Rattle.grep_options.proofs.sizes.digits_from.Given as goal

abbrev pub invariant-loop-byte : goal.invariant-loop-byte
invariant-loop-byte l = digits_from l.number (drop l.byte-index l.digits) ≡ digits_from l.start l.digits
