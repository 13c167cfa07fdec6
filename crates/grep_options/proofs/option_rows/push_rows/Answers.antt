use Rattle.grep_options.specs.Rows.{row_of}
use Rattle.grep_options.proofs.Rows.{next_row}
use Rattle.grep_options.proofs.option_rows.push_rows.Goals as goal

pub loop-row-preserved : goal.loop-row-preserved
loop-row-preserved c =
    next_row row_of c.args.rows.now c.loop-row.row-index _ c.loop-row-test.true c.loop-row.invariant c.in_ok-push_row.ensures
