use Rattle.std.proofs.Common.{take}
use Rattle.thompson_nfa.specs.LiteralGroups.{texts, strings_of_groups, AreGroups}
use Rattle.thompson_nfa.proofs.literals.literal_groups.add_strings.Given as goal

abbrev pub invariant-loop-string : goal.invariant-loop-string
invariant-loop-string l = AreGroups l.bytes.items (strings_of_groups (λ g. g.items) l.groups.items) (texts (take l.string-index l.strings))
