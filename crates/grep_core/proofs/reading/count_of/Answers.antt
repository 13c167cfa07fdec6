use Rattle.std.proofs.Common.{◌∙◌, sym, ap}
use Rattle.grep_core.specs.Report.{counted_as}
use Rattle.grep_core.proofs.TellingLemmas.{all_counted}
use Rattle.grep_core.proofs.reading.count_of.Goals as goal

pub returns : goal.returns
returns c t f =
    c.counted_as.ensures ∙ ap (counted_as c.args.print) (sym (all_counted t.what.now f c.args.progress.now.telling.count))
