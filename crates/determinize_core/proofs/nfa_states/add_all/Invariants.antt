use Rattle.std.proofs.Common.{◌≡◌, ◌++◌, drop}
use Rattle.determinize_core.proofs.nfa_states.add_all.Given as goal

-- with the states that are left, the builder is what it becomes with all
abbrev pub invariant-loop-k : goal.invariant-loop-k
invariant-loop-k g l = record l.builder { ids = l.builder.ids ++ drop l.k (g.S.NameSet.names l.set) } ≡
    record l.initial.builder { ids = l.initial.builder.ids ++ g.S.NameSet.names l.set }
