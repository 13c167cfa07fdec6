use Rattle.std.proofs.Common.{length, reverse}
use Rattle.meta_regex.specs.Parts.{Shun}
use Rattle.meta_regex.proofs.splitting.shun.Given as goal

abbrev pub invariant-loop-part : goal.invariant-loop-part
invariant-loop-part l = Shun (reverse l.left) l.set → Shun (reverse l.parts) l.set

abbrev pub decreases-loop-part : goal.decreases-loop-part
decreases-loop-part l = length l.left
