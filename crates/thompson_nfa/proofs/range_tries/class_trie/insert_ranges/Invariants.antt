use Rattle.std.proofs.Common.{[], take}
use Rattle.hir_core.specs.BySequences.{sequences_of}
use Rattle.thompson_nfa.specs.ClassTries.{GainsTurned}
use Rattle.thompson_nfa.proofs.range_tries.class_trie.insert_ranges.Given as goal

abbrev pub invariant-loop-range : goal.invariant-loop-range
invariant-loop-range l = GainsTurned [] (sequences_of (take l.range-index l.ranges)) l.trie
