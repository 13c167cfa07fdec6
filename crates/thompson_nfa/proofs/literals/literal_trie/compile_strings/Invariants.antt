use Rattle.std.proofs.Common.{map}
use Rattle.thompson_nfa.specs.LiteralGroups.{texts}
use Rattle.thompson_nfa.specs.LiteralLaid.{node_value}
use Rattle.thompson_nfa.proofs.LiteralTries.LiteralTrieLemmas.{TrieTo}
use Rattle.thompson_nfa.proofs.literals.literal_trie.compile_strings.Given as goal

abbrev pub invariant-loop-i : goal.invariant-loop-i
invariant-loop-i l = TrieTo l.fn.builder l.builder l.end (map node_value l.laid.items) (texts l.fn.strings.items) l.names.items l.i
