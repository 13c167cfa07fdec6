use Rattle.thompson_nfa.proofs.Steps.ErrorLemmas.{handed}
use Rattle.thompson_nfa.proofs.WholePatterns.FinishLemmas.{built_is_compiled, needed_fits}
use Rattle.thompson_nfa.proofs.WholePatterns.RefusalLemmas.{build_refused}
use Rattle.thompson_nfa.proofs.trees.finish.Goals as goal

pub returns-in_err-nfa-clause-refused : goal.returns-in_err-nfa-clause-refused
returns-in_err-nfa-clause-refused c = handed _ _ c.in_err-nfa.field-0.0 c.from_residual.ensures.1
    (build_refused c.args.config.now c.args.exprs.now c.args.builder.now _ c.requires.assembled.groups c.requires.assembled.captures
    c.in_err-nfa.ensures.value)

pub returns-clause-compiled : goal.returns-clause-compiled
returns-clause-compiled c = built_is_compiled c.args.config.now c.args.exprs.now c.args.builder.now c.args.starts.anchored
    c.args.starts.unanchored c.in_ok-nfa.nfa
    c.requires.assembled c.requires.apart c.in_ok-nfa.ensures.value c.in_ok-nfa.ensures.within
    (needed_fits c.args.config.now c.args.exprs.now c.args.builder.now _ c.requires.needed c.requires.assembled.counted
    c.memory_usage.ensures.value c.memory_usage.ensures.within) c.is_sound.ensures
    c.reached_states_are_led_to.ensures.led c.reached_states_are_led_to.ensures.all
