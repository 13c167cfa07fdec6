use Rattle.hirgrep_main.proofs.OutcomeLemmas.{continues_as, continues_searched, searched_as}
use Rattle.hirgrep_main.proofs.files.listing.list_file.Goals as goal

pub returns-clause-counted : goal.returns-clause-counted
returns-clause-counted c =
    let print = c.args.task.asked.now.what.print in
    searched_as print c.args.outcome.now 0 c.wrote.result c.write_shown-written.result c.keep_search.ensures

pub returns-clause-continues : goal.returns-clause-continues
returns-clause-continues c =
    let print = c.args.task.asked.now.what.print in
    continues_as (continues_searched print c.args.outcome.now 0 c.wrote.result c.write_shown-written.result) c.keep_search.ensures
