use Rattle.lazy_dfa.proofs.Automata.QuitSetLemmas.{some_high_is_missing, missing_high_is_refused}
use Rattle.lazy_dfa.proofs.laws.quit_laws.automata_are_unsupported_without_high_quit_bytes.Goals as goal

pub returns-clause-some : goal.returns-clause-some
returns-clause-some c = λ a boundaries set e. some_high_is_missing a boundaries set e

pub returns-clause-each : goal.returns-clause-each
returns-clause-each c = λ a set b unicode from to e. missing_high_is_refused a set b unicode from to e
