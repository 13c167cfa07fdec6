use Rattle.std.proofs.Common.{refl, arith, ◌<◌, length}
use Rattle.std.proofs.lemmas.List.{length-map}
use Rattle.hir_core.specs.Sequences.{bytes_of}
use Rattle.thompson_nfa.proofs.Classes.StackLemmas.{other_inside, nodes_differ, nodes_agree}
use Rattle.thompson_nfa.proofs.class_fragments.utf8_compiler.first_difference.Goals as goal

pub bounds-ranges-i : goal.bounds-ranges-i
bounds-ranges-i c =
    let l = other_inside _ _ _ c.loop-i.invariant in
    let long = length-map c.args.ranges.now bytes_of in
    omega (arith, l, long)

pub returns-then-not-ends_in-clause-inside : goal.returns-then-not-ends_in-clause-inside
returns-then-not-ends_in-clause-inside c =
    let l = other_inside _ _ _ c.loop-i.invariant in
    let long = length-map c.args.ranges.now bytes_of in
    omega (arith, l, long)

pub returns-then-not-ends_in-clause-parts : goal.returns-then-not-ends_in-clause-parts
returns-then-not-ends_in-clause-parts c =
    let test = c.loop-i-test.true in let len = c.len-i-end.ensures in
    let less : c.loop-i.i < length c.args.state.now.nodes.items = omega (arith, test, len) in
    nodes_differ c.args.state.now.nodes.items c.args.ranges.now c.loop-i.i c.index.result.now c.index.result.now _ (record {
      start = 0;
      end = 0;
    }) c.loop-i.invariant less c.index.ensures refl
    (λ same. let t = c.ends_in.ensures.1 same in let f = c.if-not-ends_in.true in cc)

pub loop-i-preserved : goal.loop-i-preserved
loop-i-preserved c =
    let test = c.loop-i-test.true in let len = c.len-i-end.ensures in
    let less : c.loop-i.i < length c.args.state.now.nodes.items = omega (arith, test, len) in
    nodes_agree c.args.state.now.nodes.items c.args.ranges.now c.loop-i.i c.index.result.now c.index.result.now _ (record {
      start = 0;
      end = 0;
    }) c.loop-i.invariant less c.index.ensures refl c.requires.rising
    (c.ends_in.ensures.0 c.if-not-ends_in.false)
