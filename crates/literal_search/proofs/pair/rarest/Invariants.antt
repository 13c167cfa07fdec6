use Rattle.std.proofs.Common.{◌<◌, length}
use Rattle.literal_search.proofs.pair.rarest.Given as goal

abbrev pub invariant-loop-offset : goal.invariant-loop-offset
invariant-loop-offset l = 0 < length l.literal → l.best < length l.literal
