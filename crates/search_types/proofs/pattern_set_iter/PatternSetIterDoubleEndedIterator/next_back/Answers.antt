use Rattle.std.proofs.Common.{sym, ◌∙◌, arith}
use Rattle.search_types.proofs.PatternSetLemmas.{back_skips, back_gives}
use Rattle.search_types.proofs.IteratorLemmas.{step_from_back}
use Rattle.search_types.proofs.pattern_set_iter.PatternSetIterDoubleEndedIterator.next_back.Goals as goal

pub returns-then-is_member-clause-steps : goal.returns-then-is_member-clause-steps
returns-then-is_member-clause-steps c =
    let e = back_gives c.loop-is_member.self-inside.first c.loop-is_member.self-inside.which.now c.in-Some.rest.now c.in-Some.is_member.now
    c.in-Some.ensures.cases.0 c.if-is_member.true in
    cc

pub returns-then-is_member-clause-goes : goal.returns-then-is_member-clause-goes
returns-then-is_member-clause-goes c =
    let e = back_gives c.loop-is_member.self-inside.first c.loop-is_member.self-inside.which.now c.in-Some.rest.now c.in-Some.is_member.now
    c.in-Some.ensures.cases.0 c.if-is_member.true in
    step_from_back _ _ _ (cc)

pub loop-is_member-preserved : goal.loop-is_member-preserved
loop-is_member-preserved c =
    let e = back_skips c.loop-is_member.self-inside.first c.loop-is_member.self-inside.which.now c.in-Some.rest.now c.in-Some.is_member.now
    c.in-Some.ensures.cases.0 c.if-is_member.false in
    record {
      in_range = omega (arith, c.in-Some.ensures.cases.1, c.loop-is_member.invariant.in_range);
      left = sym e ∙ c.loop-is_member.invariant.left;
    }
