use Rattle.hir_core.specs.Sequences.{utf8_sequences}
use Rattle.thompson_nfa.proofs.Classes.ClassTrieLemmas.{GainsTo}
use Rattle.thompson_nfa.proofs.range_tries.class_trie.insert_range.Given as goal

abbrev pub invariant-loop-sequence : goal.invariant-loop-sequence
invariant-loop-sequence l = GainsTo l.fn.trie l.trie l.sequence-iterator (utf8_sequences l.fn.first l.fn.last)
