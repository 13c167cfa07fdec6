use Rattle.std.proofs.Common.{ap, refl, map, arith}
use Rattle.std.proofs.lemmas.List.{length-map}
use Rattle.thompson_nfa.specs.LiteralGroups.{texts}
use Rattle.thompson_nfa.specs.LiteralLaid.{node_value}
use Rattle.thompson_nfa.proofs.Steps.ErrorLemmas.{handed}
use Rattle.thompson_nfa.proofs.LiteralTries.LiteralTrieLemmas.{turn_some, turn_few, turn_parted}
use Rattle.thompson_nfa.proofs.LiteralTries.LiteralTrieLemmas.{turn_chunks, turn_refused, turn_passed}
use Rattle.thompson_nfa.proofs.LiteralTries.LiteralTrieLemmas.{turn_stem_refused, turn_stem_passed, turn_compiled}
use Rattle.thompson_nfa.proofs.LiteralTries.LiteralTrieLemmas.{all_made, all_does}
use Rattle.thompson_nfa.proofs.literals.literal_trie.compile_strings.Goals as goal

pub add_node-requires-clause-some : goal.add_node-requires-clause-some
add_node-requires-clause-some c =
    let some = turn_some node_value c.in_ok-laid.laid.items _ _ c.in_ok-end.end
    (texts c.args.strings.items) c.loop-i.names.items c.deref-in-loop-i.result.now c.loop-i.i _ c.loop-i.invariant c.loop-i-test.true
    refl c.index.result.now
    c.index.ensures (map (λ x. x.items) c.deref.result.now) (ap (map (λ x. x.items)) c.deref.ensures.value)
    c.deref-in-loop-i.ensures.value in
    omega (arith, some, length-map c.deref.result.now (λ x. x.items))

pub add_node-requires-clause-few : goal.add_node-requires-clause-few
add_node-requires-clause-few c =
    let few = turn_few node_value c.in_ok-laid.laid.items _ _ c.in_ok-end.end
    (texts c.args.strings.items) c.loop-i.names.items c.deref-in-loop-i.result.now c.loop-i.i _ c.loop-i.invariant c.loop-i-test.true
    refl c.index.result.now
    c.index.ensures (map (λ x. x.items) c.deref.result.now) (ap (map (λ x. x.items)) c.deref.ensures.value)
    c.deref-in-loop-i.ensures.value in
    omega (arith, few, length-map c.deref.result.now (λ x. x.items))

pub add_node-requires-clause-parted : goal.add_node-requires-clause-parted
add_node-requires-clause-parted c =
    let parted = turn_parted node_value c.in_ok-laid.laid.items _ _ c.in_ok-end.end
    (texts c.args.strings.items) c.loop-i.names.items c.deref-in-loop-i.result.now c.loop-i.i _ c.loop-i.invariant c.loop-i-test.true
    refl c.index.result.now
    c.index.ensures (map (λ x. x.items) c.deref.result.now) (ap (map (λ x. x.items)) c.deref.ensures.value)
    c.deref-in-loop-i.ensures.value in
    omega (arith, parted, length-map c.deref.result.now (λ x. x.items))

pub add_node-requires-clause-chunks : goal.add_node-requires-clause-chunks
add_node-requires-clause-chunks c =
    turn_chunks node_value c.in_ok-laid.laid.items _ _ c.in_ok-end.end
    (texts c.args.strings.items) c.loop-i.names.items c.deref-in-loop-i.result.now c.loop-i.i _ c.loop-i.invariant c.loop-i-test.true
    refl c.index.result.now
    c.index.ensures (map (λ x. x.items) c.deref.result.now) (ap (map (λ x. x.items)) c.deref.ensures.value) c.deref-in-loop-i.ensures.value

pub returns-in_err-id-clause-refused : goal.returns-in_err-id-clause-refused
returns-in_err-id-clause-refused c =
    handed _ _ c.in_err-id.field-0.0 c.from_residual-in_err-id.ensures.1
    (turn_refused node_value c.in_ok-laid.laid.items _ _ c.in_ok-end.end
    (texts c.args.strings.items) c.loop-i.names.items c.deref-in-loop-i.result.now c.loop-i.i _ c.loop-i.invariant c.loop-i-test.true
    refl c.index.result.now
    c.index.ensures (map (λ x. x.items) c.deref.result.now) (ap (map (λ x. x.items)) c.deref.ensures.value) c.deref-in-loop-i.ensures.value
    _ _ c.in_err-id.ensures.refused)

pub returns-in_err-id-clause-passed : goal.returns-in_err-id-clause-passed
returns-in_err-id-clause-passed c =
    handed _ _ c.in_err-id.field-0.0 c.from_residual-in_err-id.ensures.1
    (turn_passed node_value c.in_ok-laid.laid.items _ _ c.in_ok-end.end
    (texts c.args.strings.items) c.loop-i.names.items c.deref-in-loop-i.result.now c.loop-i.i _ c.loop-i.invariant c.loop-i-test.true
    refl c.index.result.now
    c.index.ensures (map (λ x. x.items) c.deref.result.now) (ap (map (λ x. x.items)) c.deref.ensures.value) c.deref-in-loop-i.ensures.value
    _ c.in_err-id.ensures.passed)

pub returns-in_err-start-clause-refused : goal.returns-in_err-start-clause-refused
returns-in_err-start-clause-refused c =
    handed _ _ c.in_err-start.field-0.0 c.from_residual-in_err-start.ensures.1
    (turn_stem_refused node_value c.in_ok-laid.laid.items _ _ c.in_ok-end.end
    (texts c.args.strings.items) c.loop-i.names.items c.deref-in-loop-i.result.now c.loop-i.i _ c.loop-i.invariant c.loop-i-test.true
    refl c.index.result.now
    c.index.ensures (map (λ x. x.items) c.deref.result.now) (ap (map (λ x. x.items)) c.deref.ensures.value) c.deref-in-loop-i.ensures.value
    c.add_node.new.builder c.in_ok-id.id c.in_ok-id.ensures.added c.index-in-loop-i.result.now c.index-in-loop-i.ensures _ _
    c.in_err-start.ensures.refused)

pub returns-in_err-start-clause-passed : goal.returns-in_err-start-clause-passed
returns-in_err-start-clause-passed c =
    handed _ _ c.in_err-start.field-0.0 c.from_residual-in_err-start.ensures.1
    (turn_stem_passed node_value c.in_ok-laid.laid.items _ _ c.in_ok-end.end
    (texts c.args.strings.items) c.loop-i.names.items c.deref-in-loop-i.result.now c.loop-i.i _ c.loop-i.invariant c.loop-i-test.true
    refl c.index.result.now
    c.index.ensures (map (λ x. x.items) c.deref.result.now) (ap (map (λ x. x.items)) c.deref.ensures.value) c.deref-in-loop-i.ensures.value
    c.add_node.new.builder c.in_ok-id.id c.in_ok-id.ensures.added c.index-in-loop-i.result.now c.index-in-loop-i.ensures _
    c.in_err-start.ensures.passed)

pub loop-i-preserved : goal.loop-i-preserved
loop-i-preserved c =
    turn_compiled node_value c.in_ok-laid.laid.items _ _ c.in_ok-end.end
    (texts c.args.strings.items) c.loop-i.names.items c.deref-in-loop-i.result.now c.loop-i.i _ c.loop-i.invariant c.loop-i-test.true
    refl c.index.result.now
    c.index.ensures (map (λ x. x.items) c.deref.result.now) (ap (map (λ x. x.items)) c.deref.ensures.value) c.deref-in-loop-i.ensures.value
    c.add_node.new.builder c.in_ok-id.id c.in_ok-id.ensures.added c.index-in-loop-i.result.now c.index-in-loop-i.ensures
    c.add_text.new.builder c.in_ok-start.start c.in_ok-start.ensures.added

pub returns-clause-made : goal.returns-clause-made
returns-clause-made c = all_made _ _ c.in_ok-end.end _ (texts c.args.strings.items) c.loop-i.names.items c.loop-i.i c.loop-i.invariant
    c.loop-i-test.false _ c.index-2.ensures

pub returns-clause-denotes : goal.returns-clause-denotes
returns-clause-denotes c = all_does _ _ c.in_ok-end.end _ (texts c.args.strings.items) c.loop-i.names.items c.loop-i.i c.loop-i.invariant
    c.loop-i-test.false _ c.index-2.ensures
