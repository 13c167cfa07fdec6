use Rattle.determinize_core.proofs.ValueLemmas.{told_by_bytes, told_by_test, has_its_own}
use Rattle.determinize_core.proofs.state_laws.states_are_told_by_their_bytes.Goals as goal

pub returns-clause-bytes : goal.returns-clause-bytes
returns-clause-bytes c = told_by_bytes

pub returns-clause-test : goal.returns-clause-test
returns-clause-test c = told_by_test

pub returns-clause-itself : goal.returns-clause-itself
returns-clause-itself c = has_its_own
