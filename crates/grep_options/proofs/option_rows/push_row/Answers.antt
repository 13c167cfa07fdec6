use Rattle.grep_options.specs.Rows.{row_of}
use Rattle.grep_options.proofs.Rows.{appended}
use Rattle.grep_options.proofs.option_rows.push_row.Goals as goal

pub returns : goal.returns
returns c =
    appended c.args.args.now.items c.append.new.items.items c.in_ok-arg.arg (row_of c.args.row.now) c.in_ok-append.ensures c.in_ok-arg.ensures
