use Rattle.std.proofs.Common.{◌≡◌, length}
use Rattle.std.specs.Prelude.{All}
use Rattle.thompson_nfa.proofs.literals.literal_trie.same_names.Given as goal

abbrev pub invariant-loop-index : goal.invariant-loop-index
invariant-loop-index l = (length l.names.items ≡ l._index) × All (λ q. q ≡ l.id) l.names.items
