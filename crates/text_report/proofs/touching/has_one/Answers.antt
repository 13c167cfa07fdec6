use Rattle.std.proofs.Common.{◌∙◌, sym}
use Rattle.text_report.proofs.TouchingLemmas.{has_none, has_on}
use Rattle.text_report.proofs.touching.has_one.Goals as goal

pub loop-span-preserved : goal.loop-span-preserved
loop-span-preserved c =
    has_on c.args.begun c.args.start c.args.end c.args.found.now c.loop-span.span-index _ c.loop-span-test.true
    (sym c.counts_at.ensures ∙ c.if-counts_at.false) c.loop-span.invariant

pub returns-then-end-span : goal.returns-then-end-span
returns-then-end-span c =
    has_none c.args.begun c.args.start c.args.end c.args.found.now c.loop-span.span-index _ c.loop-span-test.true c.if-end-span.true
    c.loop-span.invariant
