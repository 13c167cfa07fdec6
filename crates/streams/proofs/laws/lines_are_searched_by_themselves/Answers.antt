use Rattle.streams.proofs.LineLawLemmas.{lines_are_searched}
use Rattle.streams.proofs.laws.lines_are_searched_by_themselves.Goals as goal

pub returns : goal.returns
returns c = lines_are_searched
