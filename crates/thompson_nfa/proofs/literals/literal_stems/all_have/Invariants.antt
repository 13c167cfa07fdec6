use Rattle.std.proofs.Common.{take}
use Rattle.thompson_nfa.specs.LiteralGroups.{texts}
use Rattle.thompson_nfa.specs.LiteralStems.{HaveAll}
use Rattle.thompson_nfa.proofs.literals.literal_stems.all_have.Given as goal

abbrev pub invariant-loop-string : goal.invariant-loop-string
invariant-loop-string l = HaveAll l.at l.byte (texts (take l.string-index l.strings))
