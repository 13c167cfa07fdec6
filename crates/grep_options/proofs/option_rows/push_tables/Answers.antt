use Rattle.std.proofs.Common.{map}
use Rattle.grep_options.specs.Rows.{row_of}
use Rattle.grep_options.proofs.Rows.{next_rows}
use Rattle.grep_options.proofs.option_rows.push_tables.Goals as goal

pub loop-rows-preserved : goal.loop-rows-preserved
loop-rows-preserved c =
    next_rows (λ t. map row_of t.now) c.args.tables.now c.loop-rows.rows-index _ c.loop-rows-test.true c.loop-rows.invariant c.in_ok-push_rows.ensures
