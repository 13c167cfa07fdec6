use Rattle.look_core.proofs.MirrorLemmas.{mirror, mirror_lines}
use Rattle.look_core.proofs.laws.reversed_looks_hold_in_the_reversed_haystack.Goals as goal

pub returns-clause-mirror : goal.returns-clause-mirror
returns-clause-mirror c = mirror

pub returns-clause-lines : goal.returns-clause-lines
returns-clause-lines c = mirror_lines
