use Rattle.std.proofs.Common.{map, ◌∙◌, arith, inr}
use Rattle.ffi_core.proofs.TextLemmas.{one_more_cut, all_cut, refused_text, too_few, too_many}
use Rattle.ffi_core.proofs.texts.patterns_of.Goals as goal

pub loop-number-preserved : goal.loop-number-preserved
loop-number-preserved c =
    one_more_cut c.args.lengths.now c.args.bytes.now c.loop-number.number 0 (map (λ t. t.now) c.loop-number.texts.items)
    (map (λ t. t.now) c.push.new.texts.items)
    c.loop-number.rest.now c.in-Ok.text.now c.in-Some.behind.now c.loop-number-test.true c.in-Some.ensures.cases.0
    (c.in-Ok.ensures.same ∙ c.in-Some.ensures.cases.1) c.in-Some.ensures.cases.2 c.in_ok-push.ensures.more c.loop-number.invariant

pub returns-in-Err-clause-refused : goal.returns-in-Err-clause-refused
returns-in-Err-clause-refused c =
    refused_text c.args.lengths.now c.args.bytes.now c.loop-number.number 0 (map (λ t. t.now) c.loop-number.texts.items)
    c.loop-number.rest.now c.in-Some.part.now c.loop-number-test.true c.in-Some.ensures.cases.1 c.loop-number.invariant c.in-Err.e
    c.in-Err.ensures.refused

pub returns-in_default-clause-refused : goal.returns-in_default-clause-refused
returns-in_default-clause-refused c = inr (too_few c.args.lengths.now c.args.bytes.now c.loop-number.number 0
    (map (λ t. t.now) c.loop-number.texts.items) c.loop-number.rest.now c.loop-number-test.true c.in_default.ensures.cases
    c.loop-number.invariant)

pub returns-clause-texts : goal.returns-clause-texts
returns-clause-texts c =
    all_cut c.args.lengths.now c.args.bytes.now c.loop-number.number (map (λ t. t.now) c.loop-number.texts.items) c.loop-number.rest.now
    (omega (arith, c.loop-number-test.false)) c.loop-number.invariant

pub returns-then-not-is_empty-clause-refused : goal.returns-then-not-is_empty-clause-refused
returns-then-not-is_empty-clause-refused c = inr (too_many c.args.lengths.now c.args.bytes.now c.loop-number.number
    (map (λ t. t.now) c.loop-number.texts.items) c.loop-number.rest.now (omega (arith, c.loop-number-test.false)) c.if-not-is_empty.ensures
    c.loop-number.invariant)
