use Rattle.hirscan.proofs.EffectLemmas.{one_effect}
use Rattle.hirscan.proofs.reading_laws.lines_have_one_effect.Goals as goal

pub returns-clause-same : goal.returns-clause-same
returns-clause-same c = one_effect
