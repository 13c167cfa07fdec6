use Rattle.determinize_core.proofs.TargetLemmas.{one_below}
use Rattle.determinize_core.proofs.next_state.target.Goals as goal

pub returns-in-Byte-clause-inside : goal.returns-in-Byte-clause-inside
returns-in-Byte-clause-inside c = one_below c.args.nfa.now.automaton c.is_sound.ensures.named c.in-Byte.byte c.args.id _ c.target_by.result
    c.state.ensures c.target_by.ensures
