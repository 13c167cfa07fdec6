use Rattle.std.proofs.Common.{take, map}
use Rattle.grep_options.specs.CommandLine.{AddsOptions}
use Rattle.grep_options.specs.Rows.{row_of}
use Rattle.grep_options.proofs.option_rows.push_rows.Given as goal

abbrev pub invariant-loop-row : goal.invariant-loop-row
invariant-loop-row l = AddsOptions l.initial.args.items l.args.items (map row_of (take l.row-index l.rows))
