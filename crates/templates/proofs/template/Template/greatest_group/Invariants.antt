use Rattle.std.proofs.Common.{◌≡◌, drop}
use Rattle.templates.specs.Expansion.{greatest_group}
use Rattle.templates.proofs.template.Template.greatest_group.Given as goal

abbrev pub invariant-loop-i : goal.invariant-loop-i
invariant-loop-i l = l.greatest ≡ greatest_group (drop l.i l.self.pieces.items)
