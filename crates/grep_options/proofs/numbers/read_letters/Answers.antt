use Rattle.grep_options.specs.Numbers.{add_bytes, letters_of, no_letters}
use Rattle.grep_options.proofs.Letters.{next_letter}
use Rattle.grep_options.proofs.numbers.read_letters.Goals as goal

pub loop-byte-preserved : goal.loop-byte-preserved
loop-byte-preserved c =
    next_letter c.args.letters.now (letters_of c.loop-byte.cluster) (letters_of c.read.new.self) (add_bytes no_letters c.args.letters.now)
    c.loop-byte.byte-index c.loop-byte-test.true c.in_ok-read.ensures c.loop-byte.invariant
