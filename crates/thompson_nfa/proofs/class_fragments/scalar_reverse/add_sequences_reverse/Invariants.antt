use Rattle.thompson_nfa.proofs.Classes.SuffixSteps.{MetSequences}
use Rattle.thompson_nfa.proofs.class_fragments.scalar_reverse.add_sequences_reverse.Given as goal

abbrev pub invariant-loop-sequence : goal.invariant-loop-sequence
invariant-loop-sequence l = MetSequences l.fn.builder l.builder l.fn.suffixes l.suffixes l.fn.choice l.fn.end l.fn.first l.fn.last
    l.sequence-iterator
