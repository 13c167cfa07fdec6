use Rattle.std.proofs.Common.{ℕ, sym, ap, refl, ◌∙◌}
use Rattle.determinize_core.proofs.AddedLemmas.{no_looks}
use Rattle.determinize_core.proofs.nfa_states.add_looks.Goals as goal

pub returns-then-is_empty : goal.returns-then-is_empty
returns-then-is_empty g c =
    ap (λ (n : ℕ). record c.args.builder.now { look_need = n })
    (sym (no_looks c.args.nfa.now.automaton (sym c.look_set_any.ensures ∙ c.if-is_empty.ensures.0 refl) c.args.builder.now.look_need
    (g.S.NameSet.names c.args.set.now)))
