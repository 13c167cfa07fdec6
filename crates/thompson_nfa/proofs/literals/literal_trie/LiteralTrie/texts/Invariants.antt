use Rattle.std.proofs.Common.{◌≡◌, map, take}
use Rattle.thompson_nfa.specs.LiteralGroups.{texts}
use Rattle.thompson_nfa.proofs.literals.literal_trie.LiteralTrie.texts.Given as goal

abbrev pub invariant-loop-string : goal.invariant-loop-string
invariant-loop-string l = texts l.all.items ≡ map (λ v. v.items) (take l.string-index l.string-items)
