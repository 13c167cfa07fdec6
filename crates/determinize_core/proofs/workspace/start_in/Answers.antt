use Rattle.std.proofs.Common.{◌∙◌, sym, subst}
use Rattle.determinize_core.specs.States.{StateValue}
use Rattle.determinize_core.specs.Stepped.{IsStepped}
use Rattle.determinize_core.proofs.workspace.start_in.Goals as goal

pub returns-clause-stepped : goal.returns-clause-stepped
returns-clause-stepped g c =
    subst (λ (v : StateValue). IsStepped c.args.nfa.now.automaton v) (sym (c.in_ok-first.ensures ∙ c.in_ok-built.ensures.value))
    (c.starts_and_steps_are_stepped.ensures.start c.args.nfa.now.automaton c.args.nfa.now.terminator c.args.start c.args.id
    c.is_sound.ensures c.requires.inside)
