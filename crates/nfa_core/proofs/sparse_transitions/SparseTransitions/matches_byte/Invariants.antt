use Rattle.std.proofs.Common.{◌≡◌, map, drop}
use Rattle.nfa_core.specs.Transitions.{range_of, sparse_next}
use Rattle.nfa_core.proofs.sparse_transitions.SparseTransitions.matches_byte.Given as goal

abbrev pub invariant-loop-transition : goal.invariant-loop-transition
invariant-loop-transition l =
    sparse_next (map range_of l.self.transitions.items) l.byte ≡ sparse_next
    (map range_of (drop l.transition-index l.self.transitions.items)) l.byte
