use Rattle.std.proofs.Common.{◌++◌, map}
use Rattle.grep_core.specs.Colors.{marked_from}
use Rattle.grep_core.specs.Printing.{moved}
use Rattle.line_search.specs.LineMatchers.{span_pair}
use Rattle.grep_core.proofs.MarkLemmas.{next_match}
use Rattle.grep_core.proofs.colors.push_matches.Goals as goal

pub loop-span-preserved : goal.loop-span-preserved
loop-span-preserved c = next_match c.args.colors.now c.args.own c.args.part c.args.text.now c.args.found.now c.loop-span.span-index
    c.loop-span.at c.args.left c.saturating_sub-start.result c.saturating_sub-end.result c.in_ok-at.at (record { start = 0; end = 0 })
    c.loop-span.out.items c.push_match.new.out.items
    (c.args.out.now.items ++ marked_from c.args.colors.now c.args.own c.args.part c.args.text.now 0
    (map (moved c.args.left) (map span_pair c.args.found.now)))
    c.loop-span-test.true c.saturating_sub-start.ensures c.saturating_sub-end.ensures c.in_ok-at.ensures c.loop-span.invariant
