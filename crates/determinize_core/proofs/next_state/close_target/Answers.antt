use Rattle.std.proofs.Common.{ℕ, List, refl, subst}
use Rattle.std.specs.Bool.{nat_eq}
use Rattle.nfa_core.specs.Walks.{Visits, done}
use Rattle.determinize_core.specs.Steps.{known_steps}
use Rattle.determinize_core.proofs.next_state.close_target.Goals as goal

pub returns-in_default-clause-visits : goal.returns-in_default-clause-visits
returns-in_default-clause-visits g c =
    subst (λ (qs : List ℕ). Visits nat_eq (known_steps c.args.nfa.now.automaton c.args.looks) qs (g.S.NameSet.names c.args.set.now)
    (g.S.NameSet.names c.args.set.now)) c.in_default.ensures.ways
    (done (g.S.NameSet.names c.args.set.now) (g.S.NameSet.names c.args.set.now) refl)
