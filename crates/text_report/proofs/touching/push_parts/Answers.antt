use Rattle.std.proofs.Common.{map}
use Rattle.line_search.specs.LineMatchers.{span_pair}
use Rattle.text_report.proofs.TouchingLemmas.{parts_end, parts_on}
use Rattle.text_report.proofs.touching.push_parts.Goals as goal

pub loop-span-preserved : goal.loop-span-preserved
loop-span-preserved c =
    parts_on c.args.begun c.args.start c.args.end c.args.found.now c.loop-span.span-index _ c.loop-span-test.true c.args.size
    (map span_pair c.args.parts.now.items) (map span_pair c.loop-span.parts.items) (map span_pair c.push_part.new.parts.items)
    c.in_ok-push_part.ensures c.loop-span.invariant

pub returns-then-end-span : goal.returns-then-end-span
returns-then-end-span c =
    parts_end c.args.begun c.args.start c.args.end c.args.found.now c.loop-span.span-index _ c.loop-span-test.true c.args.size
    (map span_pair c.args.parts.now.items) (map span_pair c.loop-span.parts.items) (map span_pair c.loop-span.parts.items)
    c.if-end-span.true c.loop-span.invariant
