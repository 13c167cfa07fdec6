use Rattle.std.proofs.Common.{ℕ, List, ◌++◌, sym, ap, ◌∙◌}
use Rattle.determinize_core.proofs.AddedLemmas.{all_kept}
use Rattle.determinize_core.proofs.nfa_states.add_kept.Goals as goal

pub returns-then-not-has_capture : goal.returns-then-not-has_capture
returns-then-not-has_capture g c =
    c.in_ok-add_all.ensures ∙ ap (λ (qs : List ℕ). record c.args.builder.now { ids = c.args.builder.now.ids ++ qs })
    (sym (all_kept c.args.nfa.now.automaton (sym c.has_capture.ensures ∙ c.if-not-has_capture.true) (g.S.NameSet.names c.args.set.now)))
