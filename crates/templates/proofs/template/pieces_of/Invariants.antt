use Rattle.std.proofs.Common.{◌-◌, length}
use Rattle.templates.proofs.TextLemmas.{AreReadUpTo}
use Rattle.templates.proofs.template.pieces_of.Given as goal

abbrev pub invariant-loop-at : goal.invariant-loop-at
invariant-loop-at l = AreReadUpTo l.names l.replacement l.at l.pieces.items

abbrev pub decreases-loop-at : goal.decreases-loop-at
decreases-loop-at l = length l.replacement - l.at
