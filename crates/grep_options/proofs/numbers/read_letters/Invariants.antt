use Rattle.std.proofs.Common.{◌≡◌, drop}
use Rattle.grep_options.specs.Numbers.{letters_of, no_letters, add_bytes}
use Rattle.grep_options.proofs.numbers.read_letters.Given as goal

abbrev pub invariant-loop-byte : goal.invariant-loop-byte
invariant-loop-byte l = add_bytes (letters_of l.cluster) (drop l.byte-index l.letters) ≡ add_bytes no_letters l.letters
