use Rattle.std.proofs.Common.{◌≡◌, drop}
use Rattle.determinize_core.specs.Steps.{looks_with}
use Rattle.determinize_core.proofs.nfa_states.looks_with.Given as goal

-- with those of the states that are left, these are the looks of all
abbrev pub invariant-loop-k : goal.invariant-loop-k
invariant-loop-k g l = looks_with l.nfa.automaton l.all (drop l.k (g.S.NameSet.names l.set)) ≡ looks_with l.nfa.automaton l.fn.looks
    (g.S.NameSet.names l.set)
