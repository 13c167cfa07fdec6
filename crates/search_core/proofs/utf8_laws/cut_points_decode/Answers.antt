use Rattle.search_core.proofs.CutLemmas.{cut_behind, cut_before}
use Rattle.search_core.proofs.utf8_laws.cut_points_decode.Goals as goal

pub returns-clause-behind : goal.returns-clause-behind
returns-clause-behind c = cut_behind

pub returns-clause-before : goal.returns-clause-before
returns-clause-before c = cut_before
