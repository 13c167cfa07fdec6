use Rattle.std.proofs.Common.{arith}
use Rattle.thompson_nfa.proofs.Classes.AsciiLemmas.{ascii_range_at}
use Rattle.thompson_nfa.proofs.class_fragments.scalar_ascii.bytes_of.Goals as goal

pub overflow_cast-range : goal.overflow_cast-range
overflow_cast-range c = let r = (ascii_range_at c.args.ranges.now c.loop-range.range-index (
  0,
  0,
) c.requires.ascending c.requires.ascii c.loop-range-test.true).0 in omega (arith, r)
