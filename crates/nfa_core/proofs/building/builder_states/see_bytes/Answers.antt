use Rattle.std.proofs.Common.{◌<◌, List, subst}
use Rattle.std.proofs.lemmas.List.{take_all}
use Rattle.std.specs.Prelude.{All}
use Rattle.std.proofs.lemmas.List.Elements.{All-more}
use Rattle.nfa_core.specs.declared.transition.Transition.{Transition}
use Rattle.nfa_core.proofs.building.builder_states.see_bytes.Goals as goal

pub loop-transition-preserved : goal.loop-transition-preserved
loop-transition-preserved c = All-more (λ (t : Transition). t.end < 256) c.args.transitions.now c.loop-transition.transition-index
    c.transition-item.result c.loop-transition-test.true c.loop-transition.invariant
    (subst (λ (t : Transition). t.end < 256) c.transition-item.is c.last_byte-end.ensures)

pub returns : goal.returns
returns c = subst (λ (ts : List Transition). All (λ t. t.end < 256) ts)
    (take_all c.loop-transition.transition-index c.args.transitions.now c.loop-transition-test.false) c.loop-transition.invariant
