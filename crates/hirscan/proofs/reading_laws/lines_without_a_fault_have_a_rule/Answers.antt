use Rattle.hirscan.proofs.EffectLemmas.{takes_no_fault}
use Rattle.hirscan.proofs.reading_laws.lines_without_a_fault_have_a_rule.Goals as goal

pub returns-clause-taken : goal.returns-clause-taken
returns-clause-taken c = takes_no_fault
