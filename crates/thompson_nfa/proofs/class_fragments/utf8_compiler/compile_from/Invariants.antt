use Rattle.std.proofs.Common.{◌≡◌}
use Rattle.thompson_nfa.proofs.Classes.StackLemmas.{PopsTo}
use Rattle.thompson_nfa.proofs.class_fragments.utf8_compiler.compile_from.Given as goal

abbrev pub invariant-loop-count : goal.invariant-loop-count
invariant-loop-count l = PopsTo l.fn.state.end l.fn.builder l.builder l.fn.state.nodes.items l.state.nodes.items l.next l.fn.from l._count
    l.state.compiled × (l.state.end ≡ l.fn.state.end)
