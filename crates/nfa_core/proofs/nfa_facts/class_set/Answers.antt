use Rattle.std.proofs.Common.{◌∙◌, map}
use Rattle.nfa_core.specs.NfaValue.{IsNodeOf}
use Rattle.nfa_core.specs.States.{node_of}
use Rattle.nfa_core.proofs.ClassLemmas.{marks_are}
use Rattle.nfa_core.proofs.ToldLemmas.{of_item, marked_all}
use Rattle.nfa_core.proofs.nfa_facts.class_set.Goals as goal

pub add_told-requires : goal.add_told-requires
add_told-requires c = (
  c.requires.0,
  of_item (IsNodeOf c.requires.0) c.args.states.now c.loop-state.state-index c.state-item.result
      c.loop-state-test.true c.state-item.is c.requires.1,
)

pub returns : goal.returns
returns c =
    marked_all c.args.matcher.now.terminator c.args.states.now c.loop-state.set _ c.loop-state.state-index c.loop-state-test.false
    c.loop-state.invariant
    ∙ marks_are c.args.matcher.now.terminator (map node_of c.args.states.now) c.empty-set.result c.empty-set.ensures.len
    c.empty-set.ensures.none
