use Rattle.std.proofs.Common.{arith, ap, ◌∙◌, map, refl}
use Rattle.std.proofs.lemmas.List.{map-append}
use Rattle.thompson_nfa.specs.LiteralGroups.{texts}
use Rattle.thompson_nfa.proofs.LiteralTries.LiteralNodeLemmas.{no_item}
use Rattle.thompson_nfa.proofs.LiteralTries.LiteralRoundLemmas.{match_turn, chunk_turn}
use Rattle.thompson_nfa.proofs.literals.literal_nodes.items.Goals as goal

pub loop-rest-init : goal.loop-rest-init
loop-rest-init c = no_item c.args.first _ _ _ _ (ap (λ xs. map (λ x. x.items) xs) c.new-items.ensures.items) refl

pub loop-rest-preserved-then-is_empty : goal.loop-rest-preserved-then-is_empty
loop-rest-preserved-then-is_empty c =
    match_turn c.args.first _ _ _ c.loop-rest.rest.now c.loop-rest.matched
    (texts c.args.strings.now) c.loop-rest.invariant c.turn_len-len.result _ c.turn_len-len.ensures.value (omega (
      arith,
      c.loop-rest-test.true,
    )) (omega (arith, c.turn_len-len.ensures.within)) _ _
    c.if-is_empty.ensures c.in_ok-push_match.ensures

pub loop-rest-preserved : goal.loop-rest-preserved
loop-rest-preserved c =
    chunk_turn c.args.first _ _ _ c.loop-rest.rest.now c.loop-rest.matched
    (texts c.args.strings.now) c.loop-rest.invariant c.turn_len-len.result _ c.turn_len-len.ensures.value (omega (
      arith,
      c.loop-rest-test.true,
    )) (omega (arith, c.turn_len-len.ensures.within)) _ _ _
    c.in_ok-chunk.field-0.items c.if-is_empty.ensures (ap (λ xs. map (λ x. x.items) xs) c.in_ok-push.ensures.items
    ∙ map-append (λ x. x.items) _ _) c.in_ok-chunk.ensures.adds c.in_ok-chunk.ensures.chunk
