use Rattle.hirscan.proofs.LowEndLemmas.{none_covered}
use Rattle.hirscan.proofs.words.LowEnds.none.Goals as goal

pub returns : goal.returns
returns c = λ b l. none_covered 256 b l
