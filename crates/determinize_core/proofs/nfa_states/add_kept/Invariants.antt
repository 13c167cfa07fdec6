use Rattle.std.proofs.Common.{◌≡◌, ◌++◌, drop}
use Rattle.determinize_core.specs.Steps.{kept_among}
use Rattle.determinize_core.proofs.nfa_states.add_kept.Given as goal

-- with the states that are left, the builder is what it becomes with all
abbrev pub invariant-loop-k : goal.invariant-loop-k
invariant-loop-k g l = record l.builder { ids = l.builder.ids ++ kept_among l.nfa.automaton (drop l.k (g.S.NameSet.names l.set)) } ≡
    record l.initial.builder { ids = l.initial.builder.ids ++ kept_among l.nfa.automaton (g.S.NameSet.names l.set) }
