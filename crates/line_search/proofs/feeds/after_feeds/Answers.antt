use Rattle.std.proofs.Common.{arith}
use Rattle.line_search.proofs.FeedLemmas.{top_within, none_behind}
use Rattle.line_search.proofs.feeds.after_feeds.Goals as goal

pub returns-clause-within : goal.returns-clause-within
returns-clause-within c =
    omega (arith, top_within c.args.text.now c.args.at c.marks_of-marks.result c.requires c.marks_of-marks.ensures)

pub returns-clause-none : goal.returns-clause-none
returns-clause-none c = none_behind c.args.text.now c.args.at c.marks_of-marks.result c.requires c.marks_of-marks.ensures
