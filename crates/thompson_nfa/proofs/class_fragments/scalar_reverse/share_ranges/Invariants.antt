use Rattle.std.proofs.Common.{map}
use Rattle.hir_core.specs.Sequences.{bytes_of}
use Rattle.thompson_nfa.proofs.Classes.SuffixSteps.{SharesUpTo}
use Rattle.thompson_nfa.proofs.class_fragments.scalar_reverse.share_ranges.Given as goal

abbrev pub invariant-loop-place : goal.invariant-loop-place
invariant-loop-place l = SharesUpTo l.fn.builder l.builder l.fn.suffixes l.suffixes l.fn.end l.next l.place (map bytes_of l.ranges)
