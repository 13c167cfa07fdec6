use Rattle.std.proofs.Common.{◌≡◌}
use Rattle.lazy_dfa.specs.Quits.{has_high_bytes}
use Rattle.lazy_dfa.proofs.Automata.QuitLemmas.{all_from}
use Rattle.lazy_dfa.proofs.automaton.quits.has_high_bytes.Given as goal

abbrev pub invariant-loop-byte : goal.invariant-loop-byte
invariant-loop-byte l = has_high_bytes l.set ≡ all_from l.set l.byte
