use Rattle.std.proofs.Common.{◌≡◌, ◌^◌}
use Rattle.lazy_dfa.proofs.automaton.builder.stride_of.Given as goal

abbrev pub invariant-loop-index : goal.invariant-loop-index
invariant-loop-index l = l.stride ≡ 2 ^ l._index
