use Rattle.lazy_dfa.proofs.Automata.QuitLemmas.{IsSettled}
use Rattle.lazy_dfa.proofs.automaton.quits.with_high_bytes.Given as goal

abbrev pub invariant-loop-byte : goal.invariant-loop-byte
invariant-loop-byte l = IsSettled l.set l.quits l.byte
