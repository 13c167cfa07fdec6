use Rattle.std.proofs.Common.{map}
use Rattle.hir_core.specs.Sequences.{bytes_of}
use Rattle.thompson_nfa.specs.Utf8Stacks.{path_of}
use Rattle.thompson_nfa.proofs.Classes.StackLemmas.{Agree}
use Rattle.thompson_nfa.proofs.class_fragments.utf8_compiler.first_difference.Given as goal

abbrev pub invariant-loop-i : goal.invariant-loop-i
invariant-loop-i l = Agree (path_of l.state.nodes.items) (map bytes_of l.ranges) l.i
