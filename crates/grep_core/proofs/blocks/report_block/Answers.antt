use Rattle.std.proofs.Common.{◌≡◌, ◌≤◌, ◌∙◌, ℕ, List, take, arith, sym, subst}
use Rattle.grep_core.specs.Blocks.{finds_by, reported_bytes, counts_lines}
use Rattle.line_search.specs.Candidates.{IsNextLine}
use Rattle.line_search.specs.Searchers.{Sought}
use Rattle.grep_core.proofs.JoinLemmas.{block_counted, block_told, none_behind, rest_without, taken_below, taken_bound, whole_start}
use Rattle.grep_core.proofs.SeenLemmas.{moved_by}
use Rattle.grep_core.proofs.blocks.report_block.Goals as goal

pub report_reached-requires-clause-below : goal.report_reached-requires-clause-below
report_reached-requires-clause-below c =
    taken_below c.args.block.now c.line_start-whole.result c.loop-done.done c.line_start-whole.ensures.within c.loop-done-test.true

pub report_reached-requires-clause-whole : goal.report_reached-requires-clause-whole
report_reached-requires-clause-whole c = whole_start c.args.block.now c.line_start-whole.result c.line_start-whole.ensures.starts

pub report_reached-requires-clause-next : goal.report_reached-requires-clause-next
report_reached-requires-clause-next c =
    subst (λ (s : Sought). IsNextLine s.how s.texts (take c.line_start-whole.result c.args.block.now) c.loop-done.done c.in-Ok.reached)
    (sym c.in-Ok.ensures.same) c.in-Ok.ensures.next

pub loop-done-preserved : goal.loop-done-preserved
loop-done-preserved c =
    let block : List ℕ = c.args.block.now in
    let whole : ℕ = c.line_start-whole.result in
    let next : ℕ = c.in-Ok-report_reached.next in
    let next_in : next ≤ whole = taken_bound block whole next c.line_start-whole.ensures.within c.in-Ok-report_reached.ensures.within in
    record {
      in_whole = next_in;
      starts = c.in-Ok-report_reached.ensures.starts;
      same = c.in-Ok-report_reached.ensures.keeps.same ∙ (c.in-Ok.ensures.same ∙ c.loop-done.invariant.same);
      waits = c.in-Ok-report_reached.ensures.keeps.waits;
      reports = record {
        goes_on = λ by more.
            block_told (reported_bytes c.args.task (finds_by c.args.task by)) c.loop-done.progress c.report_reached.new.progress block more
            _ c.loop-done.out.items c.report_reached.new.out.items whole c.loop-done.done next c.loop-done.invariant.in_whole next_in
            (c.loop-done.invariant.reports.goes_on by more)
            (c.in-Ok-report_reached.ensures.reports.goes_on (moved_by (c.in-Ok.ensures.same ∙ c.loop-done.invariant.same) by));
        counts = λ by more.
            block_counted (counts_lines c.args.task (finds_by c.args.task by)) c.loop-done.progress c.report_reached.new.progress block more
            _ whole c.loop-done.done next c.loop-done.invariant.in_whole next_in
            (c.loop-done.invariant.reports.counts by more)
            (c.in-Ok-report_reached.ensures.reports.counts (moved_by (c.in-Ok.ensures.same ∙ c.loop-done.invariant.same) by));
      };
    }

pub loop-done-smaller : goal.loop-done-smaller
loop-done-smaller c =
    let next_in = taken_bound c.args.block.now c.line_start-whole.result c.in-Ok-report_reached.next c.line_start-whole.ensures.within
    c.in-Ok-report_reached.ensures.within in
    let further = c.in-Ok-report_reached.ensures.on in
    omega (arith, next_in, further)

pub returns-clause-all : goal.returns-clause-all
returns-clause-all c =
    none_behind c.args.block.now c.line_start-whole.result c.loop-done.done c.loop-done.invariant.in_whole c.loop-done-test.false
    (rest_without c.args.block.now c.line_start-whole.result c.line_start-whole.ensures.last)
