use Rattle.std.proofs.Common.{◌≡◌, drop}
use Rattle.determinize_core.specs.Steps.{is_some_kept}
use Rattle.determinize_core.proofs.next_state.some_kept.Given as goal

-- none of the states that were read so far is kept
abbrev pub invariant-loop-k : goal.invariant-loop-k
invariant-loop-k g l = is_some_kept l.nfa.automaton (g.S.NameSet.names l.set) ≡ is_some_kept l.nfa.automaton
    (drop l.k (g.S.NameSet.names l.set))
