use Rattle.std.proofs.Common.{◌∙◌, ap}
use Rattle.globs.specs.Reading.{add_all, end_all, read}
use Rattle.globs.proofs.reading.read.Goals as goal

pub returns : goal.returns
unfolding read
returns c =
    c.in_ok-end.ensures
    ∙ ap (end_all c.args.syntax) (c.in_ok-add_all.ensures ∙ ap (λ s. add_all c.args.syntax 0 s c.args.glob.now) c.new-reader.ensures)
