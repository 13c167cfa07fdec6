use Rattle.std.proofs.Common.{take}
use Rattle.thompson_nfa.specs.RangeWalks.{depth_of}
use Rattle.thompson_nfa.proofs.Tries.NodeCopyLemmas.{IsCopying}
use Rattle.thompson_nfa.proofs.range_tries.range_copy.+copy_below.Given as goal

abbrev pub decreases-copy_below : goal.decreases-copy_below
decreases-copy_below l = depth_of l.next

abbrev pub invariant-loop-edge : goal.invariant-loop-edge
invariant-loop-edge l = IsCopying l.nodes l.fn.copy l.copy l.names.items (take l.edge-index l.old) l.edges.items
