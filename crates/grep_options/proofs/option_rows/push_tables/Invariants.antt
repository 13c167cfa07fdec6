use Rattle.std.proofs.Common.{flat_map, map, take}
use Rattle.grep_options.specs.CommandLine.{AddsOptions}
use Rattle.grep_options.specs.Rows.{row_of}
use Rattle.grep_options.proofs.option_rows.push_tables.Given as goal

abbrev pub invariant-loop-rows : goal.invariant-loop-rows
invariant-loop-rows l = AddsOptions l.initial.args.items l.args.items (flat_map (λ t. map row_of t.now) (take l.rows-index l.tables))
